-- What one more member of a growth changes, and what it keeps.
use Rattle.std.proofs.Common.{◌≡◌, ◌≢◌, ℕ, zero, suc, ◌+◌, ◌-◌, ◌≤◌, false, List, [], ◌∷◌, ◌++◌, length, get_or, set, ap, ap₂, subst, sym, ◌∙◌, refl}
use Rattle.std.proofs.Common.{arith, inl, inr, le_refl, eq-eqb}
use Rattle.std.proofs.lemmas.Bool.{cases_eq, cases_lt, ne_eqb}
use Rattle.std.proofs.lemmas.List.{length-set, length_push, length-map, get_or_append_left, get_or-append_right, get_or_past, set_past}
use Rattle.std.proofs.lemmas.List.{get_or-set_same, get_or-set_other, append-nil, get_or_push}
use Rattle.sched_base.specs.Counting.{sum_to, bit}
use Rattle.sched_base.proofs.SumLemmas.{sum_to-same}
use Rattle.run_tree.specs.declared.kinds.Kind.{Kind}
use Rattle.run_tree.specs.declared.kinds.Kind.TheVariants as kind
use Rattle.run_tree.specs.Tree.{Node, no_node, is_pack, is_leaf}
use Rattle.run_tree.specs.Making.{member_node, pack_node, joined}
use Rattle.run_tree.specs.Growth.{Growth, node_in, with_member, with_pack, grown_at, grown, IsPrimalBelow}
use Rattle.run_tree.proofs.NodeKinds.{kinds, is_of_level, packs_from, packs_from_at, packs_from_off, packs_from-append, leaves_in, kinds-member}
use Rattle.run_tree.proofs.Grown.{grown_old, grown_new}
use Rattle.std.proofs.lemmas.List.{map-append}

-- ---- what holds of each node

abbrev pub AllNodes : (Node → Type 0) → List Node → Type 0
AllNodes Q nodes = (p : ℕ) → Q (node_in nodes p)

pub all_set : (Q : Node → Type 0) (xs : List Node) (i : ℕ) (y : Node) → Q y → AllNodes Q xs → AllNodes Q (set xs i y)
all_set Q xs i y new all p = elim (cases_lt i (length xs)) [
  | inl l ↦ (elim (cases_eq p i) [
    | inl e ↦ subst (λ j. Q (get_or (set xs i y) j no_node)) (sym e) (subst Q (sym (get_or-set_same xs i y no_node l)) new)
    | inr ne ↦ subst Q (sym (get_or-set_other xs i p y no_node ne)) (all p)
  ])
  | inr l ↦ subst (λ ys. Q (get_or ys p no_node)) (sym (set_past xs i y l)) (all p)
]

pub all_append : (Q : Node → Type 0) (xs ys : List Node) → AllNodes Q xs → AllNodes Q ys → AllNodes Q (xs ++ ys)
all_append Q xs ys all more p = elim (cases_lt p (length xs)) [
  | inl l ↦ subst Q (sym (get_or_append_left xs ys no_node p l)) (all p)
  | inr l ↦ subst Q (sym (get_or-append_right xs ys (length xs) p no_node refl l)) (more (p - length xs))
]

all_one : (Q : Node → Type 0) (x : Node) → Q x → Q no_node → AllNodes Q (x ∷ [])
all_one Q x here past zero = here
all_one Q x here past (suc p) = past

pub all_push : (Q : Node → Type 0) (xs : List Node) (x : Node) → Q x → AllNodes Q xs → AllNodes Q (xs ++ x ∷ [])
all_push Q xs x here all = all_append Q xs (x ∷ []) all (all_one Q x here (subst Q (get_or_past xs (length xs) no_node (le_refl (length xs)))
    (all (length xs))))

-- ---- leaves and packs with one more node

abbrev pub is_leaf_in : List Kind → ℕ → ℕ
is_leaf_in ks x = bit (is_leaf (get_or ks x (kind.Pack 0)))

pub leaves_in-push : (ks : List Kind) (k : Kind) → leaves_in (ks ++ k ∷ []) ≡ leaves_in ks + bit (is_leaf k)
leaves_in-push ks k =
    let long : length (ks ++ k ∷ []) ≡ suc (length ks) = omega (arith, length_push ks k) in
    let below = sum_to-same (length ks) (is_leaf_in (ks ++ k ∷ [])) (is_leaf_in ks) (λ x l. ap (λ j. bit (is_leaf j)) (get_or_append_left ks (k ∷ [])
    (kind.Pack 0) x l)) in
    let here : is_leaf_in (ks ++ k ∷ []) (length ks) ≡ bit (is_leaf k) = ap (λ j. bit (is_leaf j)) (get_or_push ks k (kind.Pack 0) (length ks) refl) in
    ap (λ n. sum_to n (is_leaf_in (ks ++ k ∷ []))) long ∙ ap₂ (λ a b. a + b) below here

off_level : (l : ℕ) (k : Kind) → is_pack k ≡ false → is_of_level l k ≡ false
off_level l (kind.Leaf leaf) e = refl
off_level l (kind.Pack level) e = cc
off_level l (kind.Dual primal) e = refl

pub packs_from-member : (l n : ℕ) (ks : List Kind) (k : Kind) → is_pack k ≡ false → packs_from l n (ks ++ k ∷ []) ≡ packs_from l n ks
packs_from-member l n ks k e = packs_from-append l n ks (k ∷ []) ∙ ap (λ xs. packs_from l n ks ++ xs) (packs_from_off l (n + length ks) k []
    (off_level l k e)) ∙ append-nil (packs_from l n ks)

pub packs_from-pack : (l n : ℕ) (ks : List Kind) → packs_from l n (ks ++ kind.Pack l ∷ []) ≡ packs_from l n ks ++ (n + length ks) ∷ []
packs_from-pack l n ks = packs_from-append l n ks (kind.Pack l ∷ []) ∙ ap (λ xs. packs_from l n ks ++ xs) (packs_from_at l (n + length ks) (kind.Pack l) []
    (eq-eqb l l refl))

pub packs_from-other : (l level n : ℕ) (ks : List Kind) → l ≢ level → packs_from l n (ks ++ kind.Pack level ∷ []) ≡ packs_from l n ks
packs_from-other l level n ks ne =
    packs_from-append l n ks (kind.Pack level ∷ []) ∙ ap (λ xs. packs_from l n ks ++ xs) (packs_from_off l (n + length ks) (kind.Pack level) []
    (ne_eqb level l (λ e. ne (sym e)))) ∙ append-nil (packs_from l n ks)

-- ---- a step

abbrev pub FewMembers : ℕ → Node → Type 0
FewMembers n x = length x.members ≤ n

abbrev pub LowRate : ℕ → Node → Type 0
LowRate r x = x.rate ≤ r

abbrev pub PrimalBelow : ℕ → Node → Type 0
PrimalBelow n x = IsPrimalBelow n x.kind

-- h is g with one more member of this kind and rate, in an old pack or a new one
pub record IsStep (base level : ℕ) (k : Kind) (rate : ℕ) (g h : Growth) : Type 0 where
  pub long : length h.nodes + length g.packs ≡ length g.nodes + length h.packs + 1
  pub more : length g.packs ≤ length h.packs
  pub one : length h.packs ≤ length g.packs + 1
  pub leaves : leaves_in (kinds h.nodes) ≡ leaves_in (kinds g.nodes) + bit (is_leaf k)
  pub packs : g.packs ≡ packs_from level base (kinds g.nodes) → h.packs ≡ packs_from level base (kinds h.nodes)
  pub others : (l : ℕ) → l ≢ level → packs_from l base (kinds h.nodes) ≡ packs_from l base (kinds g.nodes)
  pub members : (n : ℕ) → AllNodes (FewMembers n) g.nodes → AllNodes (FewMembers (suc n)) h.nodes
  pub rates : (r : ℕ) → AllNodes (LowRate r) g.nodes → AllNodes (LowRate (r + rate)) h.nodes
  pub primals : (n : ℕ) → IsPrimalBelow n k → AllNodes (PrimalBelow n) g.nodes → AllNodes (PrimalBelow n) h.nodes

pub length-with_member : (base : ℕ) (k : Kind) (rate i : ℕ) (xs : List Node) → length (with_member base k rate i xs) ≡ length xs + 1
length-with_member base k rate i xs = length_push (set xs i _) _ ∙ ap (λ n. n + 1) (length-set xs i _)

step_at : (base level : ℕ) (k : Kind) (rate b : ℕ) (g : Growth) → is_pack k ≡ false → IsStep base level k rate g (grown_at base k rate b g)
step_at base level k rate b g e =
    let i : ℕ = get_or g.packs b 0 - base in
    let x : Node = node_in g.nodes i in
    let y : Node = joined x (base + length g.nodes) rate in
    let m : Node = member_node k rate (base + i) (length x.members) in
    let ks = kinds-member base k rate i g.nodes in
    let wider : (n : ℕ) → AllNodes (FewMembers n) g.nodes → AllNodes (FewMembers (suc n)) g.nodes = λ n all p. let h = all p in omega (arith, h) in
    let higher : (r : ℕ) → AllNodes (LowRate r) g.nodes → AllNodes (LowRate (r + rate)) g.nodes = λ r all p. let h = all p in omega (arith, h) in
    record {
      long = omega (arith, length-with_member base k rate i g.nodes);
      more = le_refl (length g.packs);
      one = omega arith;
      leaves = ap leaves_in ks ∙ leaves_in-push (kinds g.nodes) k;
      packs = λ was. was ∙ sym (ap (packs_from level base) ks ∙ packs_from-member level base (kinds g.nodes) k e);
      others = λ l ne. ap (packs_from l base) ks ∙ packs_from-member l base (kinds g.nodes) k e;
      members = λ n all. all_push (FewMembers (suc n)) (set g.nodes i y) m (omega arith) (all_set (FewMembers (suc n)) g.nodes i y (let h = all i in
          omega (arith, h, length_push x.members (base + length g.nodes))) (wider n all));
      rates = λ r all. all_push (LowRate (r + rate)) (set g.nodes i y) m (omega arith) (all_set (LowRate (r + rate)) g.nodes i y (let h = all i in
          omega (arith, h)) (higher r all));
      primals = λ n new all. all_push (PrimalBelow n) (set g.nodes i y) m new (all_set (PrimalBelow n) g.nodes i y (all i) all);
    }

-- a new pack, and then a member
step_new : (base level : ℕ) (k : Kind) (rate b : ℕ) (g : Growth) → is_pack k ≡ false → IsStep base level k rate g (grown_at base k rate b
    (with_pack base level g))
step_new base level k rate b g e =
    let w : Growth = with_pack base level g in
    let s = step_at base level k rate b w e in
    let ks : kinds w.nodes ≡ kinds g.nodes ++ kind.Pack level ∷ [] = map-append (λ (n : Node). n.kind) g.nodes (pack_node level ∷ []) in
    let a = length_push g.nodes (pack_node level) in
    let c = length_push g.packs (base + length g.nodes) in
    let kinds_long : length (kinds g.nodes) ≡ length g.nodes = length-map g.nodes (λ (n : Node). n.kind) in
    record {
      long = (let h = s.long in omega (arith, h, a, c));
      more = (let h = s.more in omega (arith, h, c));
      one = omega (arith, c);
      leaves = (let h = s.leaves in let f = ap leaves_in ks ∙ leaves_in-push (kinds g.nodes) (kind.Pack level) in omega (arith, h, f));
      packs = λ was. s.packs (ap (λ xs. xs ++ (base + length g.nodes) ∷ []) was ∙ ap (λ n. packs_from level base (kinds g.nodes) ++ (base + n) ∷ [])
          (sym kinds_long) ∙ sym (ap (packs_from level base) ks ∙ packs_from-pack level base (kinds g.nodes)));
      others = λ l ne. s.others l ne ∙ ap (packs_from l base) ks ∙ packs_from-other l level base (kinds g.nodes) ne;
      members = λ n all. s.members n (all_push (FewMembers n) g.nodes (pack_node level) (omega arith) all);
      rates = λ r all. s.rates r (all_push (LowRate r) g.nodes (pack_node level) (omega arith) all);
      primals = λ n new all. s.primals n new (all_push (PrimalBelow n) g.nodes (pack_node level) tt all);
    }

pub step_is : (base level : ℕ) (k : Kind) (rate b : ℕ) (g : Growth) → is_pack k ≡ false → IsStep base level k rate g (grown base level k rate b g)
step_is base level k rate b g e = elim (cases_lt b (length g.packs)) [
  | inl l ↦ subst (IsStep base level k rate g) (sym (grown_old base level k rate b g l)) (step_at base level k rate b g e)
  | inr l ↦ subst (IsStep base level k rate g) (sym (grown_new base level k rate b g l)) (step_new base level k rate (length g.packs) g e)
]
