-- The kinds of nodes in a row, which settle the packs of each level and the number of leaves.
use Rattle.std.proofs.Common.{◌≡◌, ℕ, suc, ◌+◌, ◌<◌, ◌&&◌, eqb, cond, Bool, true, false, List, [], ◌∷◌, ◌++◌, map, filter, length, get_or, set, ap}
use Rattle.std.proofs.Common.{ap₂, sym, ◌∙◌, refl, arith, add-one, inl, inr, zero-add}
use Rattle.std.specs.List.{range_with_len}
use Rattle.std.proofs.lemmas.Bool.{cases_Bool, cond-true, cond-false}
use Rattle.std.proofs.lemmas.List.{map-append, length-map}
use Rattle.std.proofs.Math.Seq.{map-set_same}
use Rattle.std.proofs.Math.ListN.{get_or-map}
use Rattle.sched_base.specs.Counting.{sum_to, bit}
use Rattle.sched_base.proofs.SumLemmas.{sum_to-same}
use Rattle.run_tree.specs.declared.kinds.Kind.{Kind}
use Rattle.run_tree.specs.declared.kinds.Kind.TheVariants as kind
use Rattle.run_tree.specs.Tree.{Tree, Node, no_node, is_pack, is_leaf, level_of, kind_at, at_level}
use Rattle.run_tree.specs.Schedule.{packs_at}
use Rattle.run_tree.specs.Making.{member_node, joined}
use Rattle.run_tree.specs.Growth.{node_in, with_member, mark_primal, with_duals}
use Rattle.run_tree.specs.Maker.{leaf_count}

abbrev pub kinds : List Node → List Kind
kinds nodes = map (λ (n : Node). n.kind) nodes

-- ---- packs of a level

abbrev pub is_of_level : ℕ → Kind → Bool
is_of_level l k = is_pack k && eqb (level_of k) l

-- the packs of level l among nodes of these kinds, which are numbered from n on
abbrev pub packs_from : ℕ → ℕ → List Kind → List ℕ
packs_from l n [] = []
packs_from l n (k ∷ ks) = cond (is_of_level l k) (n ∷ packs_from l (suc n) ks) (packs_from l (suc n) ks)

pub packs_from_at : (l n : ℕ) (k : Kind) (ks : List Kind) → is_of_level l k ≡ true → packs_from l n (k ∷ ks) ≡ n ∷ packs_from l (suc n) ks
packs_from_at l n k ks e = cond-true (is_of_level l k) (n ∷ packs_from l (suc n) ks) (packs_from l (suc n) ks) e

pub packs_from_off : (l n : ℕ) (k : Kind) (ks : List Kind) → is_of_level l k ≡ false → packs_from l n (k ∷ ks) ≡ packs_from l (suc n) ks
packs_from_off l n k ks e = cond-false (is_of_level l k) (n ∷ packs_from l (suc n) ks) (packs_from l (suc n) ks) e

pub packs_from-append : (l n : ℕ) (ks js : List Kind) → packs_from l n (ks ++ js) ≡ packs_from l n ks ++ packs_from l (n + length ks) js
packs_from-append l n [] js = let e : n ≡ n + 0 = omega arith in ap (λ m. packs_from l m js) e
packs_from-append l n (k ∷ ks) js =
    let e : suc n + length ks ≡ n + suc (length ks) = omega arith in
    let ih = packs_from-append l (suc n) ks js ∙ ap (λ m. packs_from l (suc n) ks ++ packs_from l m js) e in
    elim (cases_Bool (is_of_level l k)) [
      | inl on ↦ packs_from_at l n k (ks ++ js) on ∙ ap (λ xs. n ∷ xs) ih ∙ sym (ap (λ xs. xs ++ packs_from l (n + suc (length ks)) js)
          (packs_from_at l n k ks on))
      | inr off ↦ packs_from_off l n k (ks ++ js) off ∙ ih ∙ sym (ap (λ xs. xs ++ packs_from l (n + suc (length ks)) js) (packs_from_off l n k ks off))
    ]

-- a test that agrees with the kinds
passing_is : (l n : ℕ) (p : ℕ → Bool) (xs : List Node) → ((i : ℕ) → i < length xs → p (n + i) ≡ is_of_level l (node_in xs i).kind) →
    filter p (range_with_len n (length xs)) ≡ packs_from l n (kinds xs)
passing_is l n p [] same = refl
passing_is l n p (x ∷ xs) same =
    let here : p n ≡ is_of_level l x.kind = (let e : n ≡ n + 0 = omega arith in ap p e ∙ same 0 (omega arith)) in
    let rest : filter p (range_with_len (n + 1) (length xs)) ≡ packs_from l (suc n) (kinds xs) =
    ap (λ m. filter p (range_with_len m (length xs))) (add-one n)
    ∙ passing_is l (suc n) p xs (λ i b. let e : suc n + i ≡ n + suc i = omega arith in ap p e ∙ same (suc i) (omega arith)) in
    ap₂ (λ (b : Bool) (ys : List ℕ). cond b (n ∷ ys) ys) here rest

pub packs_at_is : (t : Tree) (l : ℕ) → packs_at t l ≡ packs_from l 0 (kinds t.nodes)
packs_at_is t l = passing_is l 0 (at_level t l) t.nodes (λ i b. ap (at_level t l) (zero-add i))

-- ---- leaves

abbrev pub leaves_in : List Kind → ℕ
leaves_in ks = sum_to (length ks) (λ x. bit (is_leaf (get_or ks x (kind.Pack 0))))

pub leaf_count_is : (t : Tree) → leaf_count t ≡ leaves_in (kinds t.nodes)
leaf_count_is t =
    sum_to-same (length t.nodes) (λ x. bit (is_leaf (kind_at t x))) (λ x. bit (is_leaf (get_or (kinds t.nodes) x (kind.Pack 0))))
    (λ x b. ap (λ k. bit (is_leaf k)) (sym (get_or-map (λ (n : Node). n.kind) t.nodes x no_node)))
    ∙ ap (λ n. sum_to n (λ x. bit (is_leaf (get_or (kinds t.nodes) x (kind.Pack 0))))) (sym (length-map t.nodes (λ (n : Node). n.kind)))

-- ---- the kinds of nodes that are made

pub kinds-member : (base : ℕ) (k : Kind) (rate i : ℕ) (xs : List Node) → kinds (with_member base k rate i xs) ≡ kinds xs ++ k ∷ []
kinds-member base k rate i xs =
    let y : Node = joined (node_in xs i) (base + length xs) rate in
    map-append (λ (n : Node). n.kind) (set xs i y) (member_node k rate (base + i) (length (node_in xs i).members) ∷ [])
    ∙ ap (λ ks. ks ++ k ∷ []) (map-set_same (λ (n : Node). n.kind) xs i y no_node refl)

pub kinds-mark_primal : (k : Kind) (number : ℕ) (xs : List Node) → kinds (mark_primal k number xs) ≡ kinds xs
kinds-mark_primal (kind.Leaf leaf) number xs = refl
kinds-mark_primal (kind.Pack level) number xs = refl
kinds-mark_primal (kind.Dual primal) number xs = map-set_same (λ (n : Node). n.kind) xs primal.0 _ no_node refl

pub kinds-with_duals : (number : ℕ) (xs nodes : List Node) → kinds (with_duals number xs nodes) ≡ kinds nodes
kinds-with_duals number [] nodes = refl
kinds-with_duals number (x ∷ xs) nodes = kinds-with_duals (suc number) xs (mark_primal x.kind number nodes) ∙ kinds-mark_primal x.kind number nodes
