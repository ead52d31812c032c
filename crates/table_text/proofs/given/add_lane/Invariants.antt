use Rattle.std.proofs.Common.{take}
use Rattle.sched_base.specs.Tables.{lane_of}
use Rattle.table_text.specs.Given.{AddsGiven}
use Rattle.table_text.proofs.given.add_lane.Given as goal

abbrev pub invariant-loop-i : goal.invariant-loop-i
invariant-loop-i l = AddsGiven l.look l.tasks (take l.i (lane_of l.rows.lanes l.p)) l.fn.sums l.sums
