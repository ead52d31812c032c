-- The leaves of a tree, in the order of their numbers.
use Rattle.std.proofs.Common.{◌≡◌, ℕ, zero, suc, ◌+◌, ◌<◌, true, false, List, [], ◌∷◌, ◌++◌, length, get_or, set, take, refl, ap, arith, ◌⊎◌, inl}
use Rattle.std.proofs.Common.{inr, sym, ap₂, ◌∙◌}
use Rattle.std.proofs.lemmas.Bool.{both_ways}
use Rattle.std.proofs.lemmas.List.{append_assoc, append-nil, length-append}
use Rattle.sched_base.specs.declared.rows.Leaf.{Leaf}
use Rattle.sched_base.specs.declared.rows.Leaf.TheVariants.{Empty}
use Rattle.run_tree.specs.declared.kinds.Kind.{Kind}
use Rattle.run_tree.specs.declared.kinds.Kind.TheVariants as kind
use Rattle.run_tree.specs.Tree.{Node, Tree, node, is_pack, is_leaf, leaf_of, no_node, IsPack}
use Rattle.run_tree.specs.Making.{pack_node, joined, with_dual, join, join_member}
use Rattle.tree_laws.proofs.NewPack.{open_pack, join_joins}

-- a leaf with its rate
pub record Entry : Type 0 where
  pub leaf : Leaf
  pub rate : ℕ

-- stands where a list has no such entry
abbrev pub no_entry : Entry
no_entry = record { leaf = Empty; rate = 0 }

abbrev pub kind_entry : Kind → ℕ → List Entry
kind_entry (kind.Leaf leaf) rate = record { leaf = leaf; rate = rate } ∷ []
kind_entry (kind.Pack level) rate = []
kind_entry (kind.Dual primal) rate = []

abbrev pub entry_of : Node → List Entry
entry_of n = kind_entry n.kind n.rate

abbrev pub entries : List Node → List Entry
entries [] = []
entries (n ∷ ns) = entry_of n ++ entries ns

pub pack_entry : (k : Kind) (rate : ℕ) → is_pack k ≡ true → kind_entry k rate ≡ []
pack_entry (kind.Leaf leaf) rate e = absurd (both_ways false refl e)
pack_entry (kind.Pack level) rate e = refl
pack_entry (kind.Dual primal) rate e = refl

pub entries-append : (ms ns : List Node) → entries (ms ++ ns) ≡ entries ms ++ entries ns
entries-append [] ns = refl
entries-append (m ∷ ms) ns = ap (λ xs. entry_of m ++ xs) (entries-append ms ns) ∙ sym (append_assoc (entry_of m) (entries ms) (entries ns))

pub entries-set : (ns : List Node) (p : ℕ) (y d : Node) → entry_of y ≡ [] → entry_of (get_or ns p d) ≡ [] → entries (set ns p y) ≡ entries ns
entries-set [] p y d e f = refl
entries-set (n ∷ ns) zero y d e f = ap (λ xs. xs ++ entries ns) (e ∙ sym f)
entries-set (n ∷ ns) (suc p) y d e f = ap (λ xs. entry_of n ++ xs) (entries-set ns p y d e f)

pub entries_open : (l : ℕ) (s : Tree) → entries (open_pack l s).nodes ≡ entries s.nodes
entries_open l s = entries-append s.nodes (pack_node l ∷ []) ∙ append-nil (entries s.nodes)

pub entries_join : (c : Kind) (r p : ℕ) (s : Tree) → IsPack s p → entries (join c r p s).nodes ≡ entries s.nodes ++ kind_entry c r
entries_join c r p s i =
    entries-append (set s.nodes p (joined (node s p) (length s.nodes) r)) _
    ∙ ap₂ (λ xs ys. xs ++ ys) (entries-set s.nodes p (joined (node s p) (length s.nodes) r) no_node (pack_entry (node s p).kind ((node s p).rate + r) i.1)
    (pack_entry (node s p).kind (node s p).rate i.1))
    (append-nil (kind_entry c r))

-- the primal of a new dual is a pack
abbrev pub FromPack : Tree → Kind → Type 0
FromPack s (kind.Leaf leaf) = Unit {0}
FromPack s (kind.Pack level) = ⊥
FromPack s (kind.Dual q) = IsPack s q.0

pub entries_any : (c : Kind) (r p : ℕ) (s : Tree) → IsPack s p → FromPack s c → entries (join_member c r p s).nodes ≡ entries s.nodes ++ kind_entry c r
entries_any (kind.Leaf leaf) r p s i from = entries_join (kind.Leaf leaf) r p s i
entries_any (kind.Pack level) r p s i from = absurd from
entries_any (kind.Dual id) r p s i from =
    let q = id.0 in
    let u : Tree = join (kind.Dual id) r p s in
    let j = join_joins (kind.Dual id) r p s i refl in
    let is = j.packs q from.0 ∙ from.1 in
    entries-set u.nodes q (with_dual (node u q) (length s.nodes)) no_node (pack_entry (node u q).kind (node u q).rate is) (pack_entry (node u q).kind
    (node u q).rate is) ∙ entries_join (kind.Dual id) r p s i

-- ---- leaves by number

abbrev pub entry_by : Kind → ℕ → Entry
entry_by k rate = record { leaf = leaf_of k; rate = rate }

abbrev pub entry_in : List Node → ℕ → Entry
entry_in ns x = entry_by (get_or ns x no_node).kind (get_or ns x no_node).rate

-- a leaf's entry, by how many come before
pub entry_at : (ns : List Node) (x : ℕ) → x < length ns → is_leaf (get_or ns x no_node).kind ≡ true →
    (i : ℕ) × (i < length (entries ns)) × (get_or (entries ns) i no_entry ≡ entry_in ns x) × (i ≡ length (entries (take x ns)))
entry_at [] x l e = absurd (omega arith)
entry_at (n ∷ ns) zero l e = here n.kind n.rate e
  where
    here : (k : Kind) (rate : ℕ) → is_leaf k ≡ true → (i : ℕ) × (i < length (kind_entry k rate ++ entries ns)) × (get_or (kind_entry k rate ++ entries ns) i
        no_entry ≡ entry_by k rate) × (i ≡ 0)
    here (kind.Leaf leaf) rate e = (0, omega arith, refl, refl)
    here (kind.Pack level) rate e = absurd (both_ways false refl e)
    here (kind.Dual primal) rate e = absurd (both_ways false refl e)
entry_at (n ∷ ns) (suc x) l e =
    let (i, li, is, at) = entry_at ns x (omega arith) e in
    later n.kind n.rate i li is at
  where
    later : (k : Kind) (rate i : ℕ) → i < length (entries ns) → get_or (entries ns) i no_entry ≡ entry_in ns x → i ≡ length (entries (take x ns)) →
        (j : ℕ) × (j < length (kind_entry k rate ++ entries ns)) × (get_or (kind_entry k rate ++ entries ns) j no_entry ≡ entry_in ns x)
        × (j ≡ length (kind_entry k rate ++ entries (take x ns)))
    later (kind.Leaf leaf) rate i li is at = (suc i, omega arith, is, ap suc at)
    later (kind.Pack level) rate i li is at = (i, li, is, at)
    later (kind.Dual primal) rate i li is at = (i, li, is, at)

-- an earlier leaf has an earlier entry
pub entries_before : (ns : List Node) (x y : ℕ) → x < y → y < length ns → is_leaf (get_or ns x no_node).kind ≡ true → length (entries (take x ns)) < length
    (entries (take y ns))
entries_before [] x y l m e = absurd (omega arith)
entries_before (n ∷ ns) x zero l m e = absurd (omega arith)
entries_before (n ∷ ns) zero (suc y) l m e = first n.kind n.rate e
  where
    first : (k : Kind) (rate : ℕ) → is_leaf k ≡ true → 0 < length (kind_entry k rate ++ entries (take y ns))
    first (kind.Leaf leaf) rate e = omega arith
    first (kind.Pack level) rate e = absurd (both_ways false refl e)
    first (kind.Dual primal) rate e = absurd (both_ways false refl e)
entries_before (n ∷ ns) (suc x) (suc y) l m e =
    let ih = entries_before ns x y (omega arith) (omega arith) e in
    omega (arith, ih, length-append (entry_of n) (entries (take x ns)), length-append (entry_of n) (entries (take y ns)))

-- each entry is a leaf
pub leaf_from : (ns : List Node) (i : ℕ) → i < length (entries ns) →
    (x : ℕ) × (x < length ns) × (is_leaf (get_or ns x no_node).kind ≡ true) × (get_or (entries ns) i no_entry ≡ entry_in ns x)
leaf_from [] i l = absurd (omega arith)
leaf_from (n ∷ ns) i l =
    elim (split n.kind n.rate i l) [
      | inl here ↦ (0, omega arith, here.0, here.1)
      | inr later ↦ (let (j, lj, e) = later in let (x, lx, is, at) = leaf_from ns j lj in (suc x, omega arith, is, e ∙ at))
    ]
  where
    split : (k : Kind) (rate i : ℕ) → i < length (kind_entry k rate ++ entries ns) →
        ((is_leaf k ≡ true) × (get_or (kind_entry k rate ++ entries ns) i no_entry ≡ entry_by k rate)) ⊎ ((j : ℕ) × (j < length (entries ns))
        × (get_or (kind_entry k rate ++ entries ns) i no_entry ≡ get_or (entries ns) j no_entry))
    split (kind.Leaf leaf) rate zero l = inl (refl, refl)
    split (kind.Leaf leaf) rate (suc i) l = inr (i, omega arith, refl)
    split (kind.Pack level) rate i l = inr (i, l, refl)
    split (kind.Dual primal) rate i l = inr (i, l, refl)
