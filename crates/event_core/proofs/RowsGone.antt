-- What a round that is just gone showed.
use Rattle.std.proofs.Common.{◌≡◌, ℕ, zero, suc, ◌<◌, Bool, List, [], ◌∷◌, length, get_or, Option, Some, None, ap, arith, sym, zero-add, ◌∙◌}
use Rattle.std.specs.List.{AllByRecursion}
use Rattle.sched_base.specs.declared.rows.Leaf.{Leaf}
use Rattle.sched_base.specs.declared.rows.Leaf.TheVariants.{Empty}
use Rattle.sched_base.specs.declared.rows.Row.{Row}
use Rattle.sched_base.proofs.HeldLemmas.{held_at}
use Rattle.run_tree.specs.Boundaries.{set_boundary}
use Rattle.run_tree.specs.Schedule.{onto_at, packs_at}
use Rattle.run_tree.specs.Plans.{PlanContents, IsPlan}
use Rattle.run_tree.proofs.ScheduleLemmas.{length-places, onto_is}
use Rattle.sched_laws.proofs.FullRows.{round_full}
use Rattle.sched_laws.proofs.PlacedPacks.{onto_within}
use Rattle.sched_laws.proofs.RoundRows.{row_of, round_is}
use Rattle.sched_laws.proofs.WholeRounds.{length-rows}
use Rattle.event_core.specs.Rounds.{rows_of_round}
use Rattle.event_core.specs.Cores.{SaysRuns}
use Rattle.event_core.specs.Steps.{leaf_shown, row_by}
use Rattle.event_core.proofs.QuietRounds.{plan_leaves}
use Rattle.event_core.proofs.RowsByLists.{row_is, rows_from_at}

-- what holds of each item holds of item k
all_at : {X : Type 0} (P : X → Type 0) (xs : List X) (k : ℕ) (none : X) → k < length xs → AllByRecursion P xs → P (get_or xs k none)
all_at P [] k none l all = absurd (omega (arith, l))
all_at P (x ∷ xs) zero none l all = all.0
all_at P (x ∷ xs) (suc k) none l all = all_at P xs k none (omega (arith, l)) all.1

module _ (p : PlanContents) (h : IsPlan p) (n : ℕ) where
  pub as_many : length (onto_at (set_boundary p.set.tasks) p.tree n) ≡ p.tree.processors
  as_many = (let e = ap (λ (os : List (Option ℕ)). length os) (onto_is (set_boundary p.set.tasks) p.tree n) in e ∙ length-places (set_boundary p.set.tasks)
      p.tree (suc n))

  -- the pack on a processor is one of level 0
  pub pack_within : (q i : ℕ) → q < p.tree.processors → get_or (onto_at (set_boundary p.set.tasks) p.tree n) q None ≡ Some i → i < length (packs_at p.tree 0)
  pack_within q i l at =
      let long = as_many in
      (onto_within (set_boundary p.set.tasks) p.tree h.tree.tree (plan_leaves p h) n i (held_at (onto_at (set_boundary p.set.tasks) p.tree n) q i
      (omega (arith, l, long)) at)).0

  module _ (rs : List Bool) (says : SaysRuns p n rs) (onto : List (Option ℕ)) (is : onto ≡ onto_at (set_boundary p.set.tasks) p.tree n) (end q : ℕ)
      (l : q < p.tree.processors) where
    -- the row of processor q
    pub row_gone : (none : Row) → get_or (rows_of_round p n end) q none ≡ row_by p rs n end q (get_or onto q None)
    row_gone none =
        let now = onto_at (set_boundary p.set.tasks) p.tree n in
        let long = as_many in
        ap (λ rows. get_or rows q none) (round_is p.set.tasks p.tree n end)
        ∙ rows_from_at p.set.tasks p.tree n end 0 now q none (omega (arith, l, long))
        ∙ ap (λ k. row_of p.set.tasks p.tree n end k (get_or now q None)) (zero-add q)
        ∙ sym (row_is p h n rs says end q (get_or now q None) (λ i at. pack_within q i l at))
        ∙ ap (λ (os : List (Option ℕ)). row_by p rs n end q (get_or os q None)) (sym is)

    -- shows something
    pub shows : (leaf : Leaf) → leaf ≡ leaf_shown p rs n (get_or onto q None) → leaf ≡ Empty → ⊥
    shows leaf e empty =
        let none : Row = record { processor = 0; start = 0; end = 0; leaf = Empty } in
        let long = as_many in
        let rows = length-rows p.set.tasks p.tree n end 0 (onto_at (set_boundary p.set.tasks) p.tree n) in
        let same = ap (λ (rs : List Row). length rs) (round_is p.set.tasks p.tree n end) in
        let full = all_at (λ (r : Row). r.leaf ≡ Empty → ⊥) (rows_of_round p n end) q none (omega (arith, l, long, rows, same)) (round_full p.set.tasks
        p.tree h.tree.tree (plan_leaves p h) h.tree.tasks n end) in
        full (ap (λ (r : Row). r.leaf) (row_gone none) ∙ sym e ∙ empty)
