-- How large the compiled tree is.
use Rattle.std.proofs.Common.{◌≡◌, ℕ, zero, suc, ◌+◌, ◌<◌, ◌≤◌, ◌++◌, List, [], ◌∷◌, length, get_or, max, sum, refl, ap, arith, ◌∙◌}
use Rattle.std.proofs.lemmas.List.{length-append}
use Rattle.std.proofs.lemmas.List.Elements.{All-from_recursion}
use Rattle.std.specs.List.{AllByRecursion, All}
use Rattle.sched_base.specs.Counting.{sum_to, bit}
use Rattle.sched_base.specs.FirstFit.{packed, packed_from}
use Rattle.run_tree.specs.declared.kinds.Kind.{Kind}
use Rattle.run_tree.specs.declared.kinds.Kind.TheVariants as kind
use Rattle.run_tree.specs.Tree.{Node, is_leaf, no_node}
use Rattle.run_tree.specs.Making.{Making, last_rates}
use Rattle.run_tree.specs.Compiled.{task_items, first_level}
use Rattle.run_tree.specs.Maker.{leaf_count}
use Rattle.tree_laws.specs.Raised.{RatesFit}
use Rattle.sched_base.proofs.SumLemmas.{sum_to_front}
use Rattle.tree_laws.proofs.LeafEntries.{entries, entry_of, kind_entry}
use Rattle.tree_laws.proofs.PackItems.{item_entries}
use Rattle.tree_laws.proofs.LastLevel.{IsLevel, length_packed, total_packed}
use Rattle.tree_laws.proofs.FirstLevel.{same_total, rates_within, filled_in}
use Rattle.tree_laws.proofs.IdleLeaves.{idle_entries}
use Rattle.tree_laws.proofs.FirstLevel as first
use Rattle.tree_laws.proofs.FewPacks.{amounts_long}
use Rattle.tree_laws.proofs.CompiledTree.{each, fit, given}

-- ---- first fit alone

pub servers_few : (scale : ℕ) (rates : List ℕ) → length (packed scale rates) ≤ length rates
unfolding packed
servers_few scale rates = let l = length_packed scale rates [] in omega (arith, l)

pub servers_sum : (scale : ℕ) (rates : List ℕ) → sum (packed scale rates) ≡ sum rates
unfolding packed
servers_sum scale rates =
    let t = total_packed scale rates [] in
    let a = same_total (packed_from scale rates []) in
    let b = same_total rates in
    omega (arith, t, a, b)

-- ---- leaves

abbrev pub leaf_bit : List Node → ℕ → ℕ
leaf_bit ns x = bit (is_leaf (get_or ns x no_node).kind)

pub leaves_counted : (ns : List Node) → sum_to (length ns) (leaf_bit ns) ≡ length (entries ns)
leaves_counted [] = refl
leaves_counted (n ∷ ns) =
    let ih = leaves_counted ns in
    let front = sum_to_front (length ns) (leaf_bit (n ∷ ns)) in
    let here = one n.kind n.rate in
    let both = length-append (entry_of n) (entries ns) in
    omega (arith, ih, front, here, both)
  where
    one : (k : Kind) (rate : ℕ) → bit (is_leaf k) ≡ length (kind_entry k rate)
    one (kind.Leaf leaf) rate = refl
    one (kind.Pack level) rate = refl
    one (kind.Dual primal) rate = refl

pub task_leaves : (j : ℕ) (rates : List ℕ) → length (item_entries (task_items j rates)) ≡ length rates
task_leaves j [] = refl
task_leaves j (r ∷ rates) = ap suc (task_leaves (suc j) rates)

pub idle_leaves : (k : ℕ) (amounts : List ℕ) → length (idle_entries k amounts) ≤ length amounts
idle_leaves k [] = omega arith
idle_leaves k (zero ∷ amounts) = let ih = idle_leaves k amounts in omega (arith, ih)
idle_leaves k (suc a ∷ amounts) = let ih = idle_leaves (suc k) amounts in omega (arith, ih)

pub leaves_few : (processors scale : ℕ) (rates : List ℕ) → RatesFit processors scale rates → leaf_count (first_level processors scale rates).tree ≤ length
    rates + max processors (length (packed scale rates))
unfolding packed
leaves_few processors scale rates h =
    let are = leaves_counted (first_level processors scale rates).tree.nodes in
    let is = ap length ((filled_in processors scale rates h.some_processors h.some_scale (each processors scale rates h) (fit processors scale rates h)).leaves
    ∙ ap (λ xs. xs ++ idle_entries 0 (given processors scale rates h)) (first.packed processors scale rates h.some_processors h.some_scale
    (each processors scale rates h) (fit processors scale rates h)).leaves) in
    let both = length-append (item_entries (task_items 0 rates)) (idle_entries 0 (given processors scale rates h)) in
    let tasks = task_leaves 0 rates in
    let idles = idle_leaves 0 (given processors scale rates h) in
    let few = amounts_long processors scale rates h.some_processors h.some_scale (each processors scale rates h) (fit processors scale rates h) in
    omega (arith, are, is, both, tasks, idles, few)

-- ---- rates

pub both_hold : {A : Type 0} (P Q : A → Type 0) (xs : List A) → AllByRecursion P xs → AllByRecursion Q xs → AllByRecursion (λ x. P x × Q x) xs
both_hold P Q [] p q = tt
both_hold P Q (x ∷ xs) p q = ((p.0, q.0), both_hold P Q xs p.1 q.1)

pub level_rates_fit : (m : Making) → IsLevel m → All (λ rate. (1 ≤ rate) × (rate ≤ m.tree.scale)) (last_rates m)
level_rates_fit m v = All-from_recursion (λ rate. (1 ≤ rate) × (rate ≤ m.tree.scale)) (last_rates m) (both_hold (λ r. 0 < r) (λ r. r ≤ m.tree.scale)
    (last_rates m) v.positive (rates_within m v.making))
