-- Each pack of level 0 that runs is on exactly one processor, and each processor has a pack.
use Rattle.std.proofs.Common.{Bool, ap, arith, count_by, get_or, inl, inr, length, suc, sym, true, ℕ, ◌<◌, ◌∙◌, ◌≡◌}
use Rattle.std.proofs.lemmas.Bool.{cases_Bool}
use Rattle.sched_base.specs.declared.rows.Leaf.{Leaf}
use Rattle.sched_base.specs.Counting.{bit, sum_to}
use Rattle.sched_base.specs.Candidates.{is_at}
use Rattle.sched_base.specs.Places.{is_running}
use Rattle.sched_base.proofs.CountingLemmas.{bit_off}
use Rattle.sched_base.proofs.SumLemmas.{sum_to-same}
use Rattle.sched_base.proofs.HeldLemmas.{free, held, held_count, runs_within, sum_held}
use Rattle.sched_base.proofs.PlaceLemmas.{placed_all}
use Rattle.run_tree.specs.Tree.{IsTree, Tree}
use Rattle.run_tree.specs.Boundaries.{HaveBoundaries}
use Rattle.run_tree.specs.Runs.{runs}
use Rattle.run_tree.specs.Schedule.{onto_at, packs_at, packs_running, places_below}
use Rattle.run_tree.proofs.TreeLemmas.{over_packs}
use Rattle.run_tree.proofs.ScheduleLemmas.{length-places, length-running, once_below, onto_is, running_is}
use Rattle.sched_laws.proofs.LevelCounts.{processors_run}

module _ (of_leaf : Leaf → ℕ → Bool) (t : Tree) (h : IsTree t) (leaves : HaveBoundaries of_leaf t) where
  -- as many packs of level 0 run as there are processors
  pub running_count : (n : ℕ) → sum_to (length (packs_running of_leaf t n)) (λ i. bit (is_running (packs_running of_leaf t n) i)) ≡ t.processors
  running_count n =
      ap (λ c. sum_to c (λ i. bit (is_running (packs_running of_leaf t n) i))) (length-running of_leaf t n)
      ∙ sum_to-same (length (packs_at t 0)) (λ i. bit (is_running (packs_running of_leaf t n) i)) (λ i. bit (runs of_leaf t (get_or (packs_at t 0) i 0) n))
      (λ i l. ap bit (running_is of_leaf t n i l))
      ∙ over_packs t (λ p. bit (runs of_leaf t p n))
      ∙ processors_run of_leaf t h leaves n

  -- a pack of level 0 that runs is on one processor, another one on none
  pub held_onto : (n i : ℕ) → held (onto_at of_leaf t n) i ≡ bit (is_running (packs_running of_leaf t n) i)
  unfolding onto_at
  held_onto n i =
      let c = running_count n in
      let l = length-places of_leaf t n in
      placed_all (packs_running of_leaf t n) (places_below of_leaf t n) (once_below of_leaf t n) (omega (arith, c, l)) i

  -- the processors with pack i, counted
  pub placed_once : (n i : ℕ) → i < length (packs_at t 0) → count_by (λ o. is_at o i) (onto_at of_leaf t n) ≡ bit (runs of_leaf t (get_or (packs_at t 0) i 0) n)
  placed_once n i l = held_count (onto_at of_leaf t n) i ∙ held_onto n i ∙ ap bit (running_is of_leaf t n i l)

  -- what is on a processor is a pack of level 0 that runs
  pub onto_within : (n i : ℕ) → 0 < held (onto_at of_leaf t n) i → (i < length (packs_at t 0)) × (runs of_leaf t (get_or (packs_at t 0) i 0) n ≡ true)
  onto_within n i some =
      let e = held_onto n i in
      let on : is_running (packs_running of_leaf t n) i ≡ true = elim (cases_Bool (is_running (packs_running of_leaf t n) i)) [
        | inl on ↦ on
        | inr off ↦ (let z = bit_off (is_running (packs_running of_leaf t n) i) off in absurd (omega (arith, e, z, some)))
      ] in
      let r = runs_within (packs_running of_leaf t n) i on in
      let c = length-running of_leaf t n in
      let l : i < length (packs_at t 0) = omega (arith, r, c) in
      (l, sym (running_is of_leaf t n i l) ∙ on)

  -- every processor has a pack
  pub full : (n : ℕ) → free (onto_at of_leaf t n) ≡ 0
  full n =
      let c = running_count n in
      let all = sum_held (length (packs_at t 0)) (onto_at of_leaf t n) (λ i some. (onto_within n i some).0) in
      let same = sum_to-same (length (packs_at t 0)) (λ i. held (onto_at of_leaf t n) i) (λ i. bit (is_running (packs_running of_leaf t n) i))
      (λ i l. held_onto n i) in
      let c' = ap (λ k. sum_to k (λ i. bit (is_running (packs_running of_leaf t n) i))) (length-running of_leaf t n) in
      let long = length-places of_leaf t (suc n) in
      let open_it = ap length (onto_is of_leaf t n) in
      omega (arith, c, all, same, c', long, open_it)
