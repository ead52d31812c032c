use Rattle.std.proofs.Common.{take}
use Rattle.sched_base.specs.Tables.{all_rows}
use Rattle.table_text.specs.Given.{AddsGiven}
use Rattle.table_text.proofs.given.add_lanes.Given as goal

abbrev pub invariant-loop-p : goal.invariant-loop-p
invariant-loop-p l = AddsGiven l.look l.tasks (all_rows (take l.p l.rows.lanes)) l.fn.sums l.sums
