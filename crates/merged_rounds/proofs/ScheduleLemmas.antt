-- What is so of the merged rows of a plan's schedule.
use Rattle.std.proofs.Common.{ℕ, ◌*◌, ◌≤◌, ◌≡◌, List, sym, subst, ◌∙◌}
use Rattle.sched_base.specs.declared.rows.Row.{Row}
use Rattle.sched_base.specs.Lanes.{NamesOneOf, lanes_of}
use Rattle.sched_base.specs.Tables.{IsTable, rounds_in, row_limit}
use Rattle.sched_base.proofs.ScheduleLanes.{lanes_of-all, length-lanes_of}
use Rattle.run_tree.specs.Plans.{IsPlan, PlanContents, schedule_of}
use Rattle.sched_laws.proofs.RowNames.{schedule_names}
use Rattle.merged_rows.specs.Lawful.{AreLawful}
use Rattle.merged_rows.proofs.MergedTables.{lawful_rows}
use Rattle.merged_rounds.specs.Passes.{AreMergedOf}

-- the rows of the schedule's lanes are a table of so many rounds
pub lawful_merged : (p : PlanContents) → IsPlan p → (lanes : List (List Row)) → AreMergedOf p lanes → (rounds : ℕ) →
    IsTable (lanes_of p.tree.processors (schedule_of p))
    → rounds_in (lanes_of p.tree.processors (schedule_of p)) ≡ rounds → rounds * p.tree.processors ≤ row_limit → AreLawful p.set lanes
lawful_merged p h lanes is rounds table count few =
    let m = p.tree.processors in
    let same : m ≡ p.set.processors = h.tree.processors in
    subst (AreLawful p.set) (sym is)
    (lawful_rows p.set (lanes_of m (schedule_of p)) rounds (length-lanes_of m (schedule_of p) ∙ same)
    (lanes_of-all (λ r. NamesOneOf p.set.tasks r.leaf) m (schedule_of p) (schedule_names p h)) table count
    (subst (λ (n : ℕ). rounds * n ≤ row_limit) same few))
