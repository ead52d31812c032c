use Rattle.std.proofs.Common.{take}
use Rattle.sched_base.specs.Tables.{lane_of}
use Rattle.row_totals.specs.Sums.{Adds}
use Rattle.row_totals.proofs.sums.add_lane.Given as goal

abbrev pub invariant-loop-k : goal.invariant-loop-k
invariant-loop-k l = Adds (take l.k (lane_of l.table.lanes l.p)) l.fn.sums l.sums
