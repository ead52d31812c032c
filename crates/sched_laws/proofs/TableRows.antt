-- The rows of a plan's schedule, and of its lanes.
use Rattle.std.proofs.Common.{◌≡◌, ◌<◌, ◌≤◌, List, arith, ap, ◌∙◌}
use Rattle.std.specs.List.{AllByRecursion}
use Rattle.sched_base.specs.declared.rows.Row.{Row}
use Rattle.sched_base.specs.Tables.{IsTable, all_rows}
use Rattle.sched_base.specs.Lanes.{lanes_of}
use Rattle.sched_base.specs.Valid.{IsValid}
use Rattle.sched_base.proofs.RowLemmas.{AllByRecursion-by}
use Rattle.sched_base.proofs.TableRows.{lanes_valid as rows_valid}
use Rattle.run_tree.specs.Plans.{IsPlan, PlanContents, schedule_of, stop_of}
use Rattle.sched_laws.proofs.ValidRows.{set_valid}

-- each row of a plan's schedule is one of the tree's processors
pub schedule_within : (p : PlanContents) → IsPlan p → AllByRecursion (λ r. r.processor < p.tree.processors) (schedule_of p)
schedule_within p h =
    let same = h.tree.processors in
    AllByRecursion-by (λ r. (r.processor < p.set.processors) × (r.end ≤ stop_of p)) (λ r. r.processor < p.tree.processors) (schedule_of p)
    (λ r both. omega (arith, both.0, same)) (set_valid p.set h.lawful p.tree h.tree).bounded

-- the lanes of a plan's table, one after the other, are a valid schedule
pub lanes_valid : (p : PlanContents) → IsPlan p → (lanes : List (List Row)) → lanes ≡ lanes_of p.tree.processors (schedule_of p) → IsTable lanes
    → IsValid p.set p.tree.scale (stop_of p) (stop_of p) (all_rows lanes)
lanes_valid p h lanes is table = rows_valid p.set p.tree.scale (stop_of p) (stop_of p) (schedule_of p) (set_valid p.set h.lawful p.tree h.tree) lanes
    (is ∙ ap (λ m. lanes_of m (schedule_of p)) h.tree.processors) table
