-- The packs of level 0 on the processors, tick by tick.
use Rattle.std.proofs.Common.{Bool, List, None, [], ap, arith, false, get_or, inl, inr, length, refl, suc, true, zero, ℕ, ◌<◌, ◌∙◌, ◌∷◌, ◌≡◌, ◌≤◌}
use Rattle.std.proofs.lemmas.Bool.{cases_Bool}
use Rattle.std.proofs.lemmas.List.{get_or-map, length-map, length-replicate}
use Rattle.sched_base.specs.declared.rows.Leaf.{Leaf}
use Rattle.sched_base.specs.Places.{is_running}
use Rattle.sched_base.proofs.CountingLemmas.{bit_le}
use Rattle.sched_base.proofs.HeldLemmas.{held, held_nobody}
use Rattle.sched_base.proofs.PlaceLemmas.{length-onto, placed_at_most}
use Rattle.run_tree.specs.Tree.{Tree, leaf}
use Rattle.run_tree.specs.Runs.{runs}
use Rattle.run_tree.specs.Schedule.{leaf_among, onto_at, packs_at, packs_running, places_below}

-- the packs on the processors, as they were placed
pub onto_is : (of_leaf : Leaf → ℕ → Bool) (t : Tree) (n : ℕ) → onto_at of_leaf t n ≡ (places_below of_leaf t (suc n)).onto
unfolding onto_at
onto_is of_leaf t n = refl

module _ (of_leaf : Leaf → ℕ → Bool) (t : Tree) where
  -- which packs of level 0 run
  pub running_is : (n i : ℕ) → i < length (packs_at t 0) → is_running (packs_running of_leaf t n) i ≡ runs of_leaf t (get_or (packs_at t 0) i 0) n
  running_is n i l = get_or-map (λ p. runs of_leaf t p n) (packs_at t 0) i 0 false l

  -- one test for each
  pub length-running : (n : ℕ) → length (packs_running of_leaf t n) ≡ length (packs_at t 0)
  length-running n = length-map (packs_at t 0) (λ p. runs of_leaf t p n)

  -- no pack is on two processors
  pub once_below : (n i : ℕ) → held (places_below of_leaf t n).onto i ≤ 1
  once_below zero i = let z = held_nobody t.processors i in omega (arith, z)
  once_below (suc n) i =
      let most = placed_at_most (packs_running of_leaf t n) (places_below of_leaf t n) (once_below n) i in
      let one = bit_le (is_running (packs_running of_leaf t n) i) in
      omega (arith, most, one)

  -- there are as many processors as the tree says
  pub length-places : (n : ℕ) → length (places_below of_leaf t n).onto ≡ t.processors
  length-places zero = length-replicate t.processors None
  length-places (suc n) = length-onto (packs_running of_leaf t n) (places_below of_leaf t n) (once_below n) ∙ length-places n

-- the leaf that runs among members
pub leaf_among_first : (of_leaf : Leaf → ℕ → Bool) (t : Tree) (n : ℕ) (ms : List ℕ) (k : ℕ) → k < length ms → runs of_leaf t (get_or ms k 0) n ≡ true →
    ((i : ℕ) → i < length ms → runs of_leaf t (get_or ms i 0) n ≡ true → i ≡ k) → leaf_among of_leaf t n ms ≡ leaf t (get_or ms k 0)
leaf_among_first of_leaf t n [] k l on alone = absurd (omega arith)
leaf_among_first of_leaf t n (x ∷ xs) zero l on alone = ap (λ (b : Bool). elim b as (λ y. Leaf) [ true ↦ leaf t x | false ↦ leaf_among of_leaf t n xs ]) on
leaf_among_first of_leaf t n (x ∷ xs) (suc k) l on alone =
    elim (cases_Bool (runs of_leaf t x n)) [
      | inl here ↦ absurd (let z = alone 0 (omega arith) here in omega (arith, z))
      | inr off ↦
          (ap (λ (b : Bool). elim b as (λ y. Leaf) [ true ↦ leaf t x | false ↦ leaf_among of_leaf t n xs ]) off
          ∙ leaf_among_first of_leaf t n xs k (omega arith) on (λ i m e. (let z = alone (suc i) (omega arith) e in omega (arith, z))))
    ]
