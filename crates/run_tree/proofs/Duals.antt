-- The duals of a level, known by their primals.
use Rattle.std.proofs.Common.{◌≡◌, ℕ, zero, suc, ◌+◌, ◌<◌, List, [], ◌∷◌, ◌++◌, length, take, set, get_or, ap, ap₂, sym, ◌∙◌, refl, arith, add-one}
use Rattle.run_tree.specs.declared.kinds.Kind.{Kind}
use Rattle.std.proofs.lemmas.List.{get_or_read, length-set}
use Rattle.run_tree.specs.Tree.{Node, no_node}
use Rattle.run_tree.specs.declared.kinds.Kind.TheVariants as kind
use Rattle.run_tree.specs.Making.{member_node, joined}
use Rattle.run_tree.specs.Growth.{node_in, mark_primal, with_duals, with_member}

next_dual : (number i : ℕ) (xs nodes : List Node) → i < length xs → with_duals number (take (suc i) xs) nodes ≡ mark_primal (node_in xs i).kind (number + i)
    (with_duals number (take i xs) nodes)
next_dual number i [] nodes l = absurd (omega arith)
next_dual number zero (x ∷ xs) nodes l = let e : number ≡ number + 0 = omega arith in ap (λ n. mark_primal x.kind n nodes) e
next_dual number (suc i) (x ∷ xs) nodes l =
    let e : suc number + i ≡ number + suc i = omega arith in
    next_dual (suc number) i xs (mark_primal x.kind number nodes) (omega arith)
    ∙ ap (λ n. mark_primal (node_in xs i).kind n (with_duals (suc number) (take i xs) (mark_primal x.kind number nodes))) e

-- one more dual
pub with_duals_more : (number i : ℕ) (xs nodes : List Node) → i < length xs → with_duals number (take (i + 1) xs) nodes ≡ mark_primal (node_in xs i).kind
    (number + i) (with_duals number (take i xs) nodes)
with_duals_more number i xs nodes l = ap (λ n. with_duals number (take n xs) nodes) (add-one i) ∙ next_dual number i xs nodes l

-- a step of the loop over the level
pub with_duals_step : (number i : ℕ) (k : Kind) (xs nodes now new : List Node) (x : Node) → i < length xs → x ≡ get_or xs i x → k ≡ x.kind →
    now ≡ with_duals number (take i xs) nodes → new ≡ mark_primal k (number + i) now →
    new ≡ with_duals number (take (i + 1) xs) nodes
with_duals_step number i k xs nodes now new x l read of before made =
    made ∙ ap (mark_primal k (number + i)) before
    ∙ ap (λ j. mark_primal j (number + i) (with_duals number (take i xs) nodes)) (of ∙ ap (λ (n : Node). n.kind) (get_or_read xs i x l read no_node))
    ∙ sym (with_duals_more number i xs nodes l)

pub length-mark_primal : (k : Kind) (number : ℕ) (nodes : List Node) → length (mark_primal k number nodes) ≡ length nodes
length-mark_primal (kind.Leaf leaf) number nodes = refl
length-mark_primal (kind.Pack level) number nodes = refl
length-mark_primal (kind.Dual primal) number nodes = length-set nodes primal.0 _

pub length-with_duals : (number : ℕ) (xs nodes : List Node) → length (with_duals number xs nodes) ≡ length nodes
length-with_duals number [] nodes = refl
length-with_duals number (x ∷ xs) nodes = length-with_duals (suc number) xs (mark_primal x.kind number nodes) ∙ length-mark_primal x.kind number nodes

pub with_duals-push : (number : ℕ) (xs nodes : List Node) (x : Node) → with_duals number (xs ++ x ∷ []) nodes ≡ mark_primal x.kind (number + length xs)
    (with_duals number xs nodes)
with_duals-push number [] nodes x = let e : number ≡ number + 0 = omega arith in ap (λ n. mark_primal x.kind n nodes) e
with_duals-push number (y ∷ xs) nodes x =
    let e : suc number + length xs ≡ number + suc (length xs) = omega arith in
    with_duals-push (suc number) xs (mark_primal y.kind number nodes) x
    ∙ ap (λ n. mark_primal x.kind n (with_duals (suc number) xs (mark_primal y.kind number nodes))) e

-- only the kinds of the level's nodes count
pub with_duals-set : (number i : ℕ) (xs nodes : List Node) (y : Node) → y.kind ≡ (node_in xs i).kind → with_duals number (set xs i y) nodes ≡ with_duals
    number xs nodes
with_duals-set number i [] nodes y e = refl
with_duals-set number zero (x ∷ xs) nodes y e = ap (λ k. with_duals (suc number) xs (mark_primal k number nodes)) e
with_duals-set number (suc i) (x ∷ xs) nodes y e = with_duals-set (suc number) i xs (mark_primal x.kind number nodes) y e

-- one more member is one more dual, where it is one
pub with_duals-member : (base : ℕ) (k : Kind) (rate i : ℕ) (xs nodes : List Node) → with_duals base (with_member base k rate i xs) nodes ≡ mark_primal k
    (base + length xs) (with_duals base xs nodes)
with_duals-member base k rate i xs nodes =
    let y : Node = joined (node_in xs i) (base + length xs) rate in
    with_duals-push base (set xs i y) nodes (member_node k rate (base + i) (length (node_in xs i).members))
    ∙ ap₂ (λ n ys. mark_primal k n ys) (ap (λ n. base + n) (length-set xs i y)) (with_duals-set base i xs nodes y refl)
