use Rattle.std.proofs.Common.{take}
use Rattle.sched_base.specs.Tables.{all_rows}
use Rattle.row_totals.specs.Sums.{Adds}
use Rattle.merged_rows.proofs.totals.add_lanes.Given as goal

abbrev pub invariant-loop-p : goal.invariant-loop-p
invariant-loop-p l = Adds (all_rows (take l.p l.rows.lanes)) l.fn.sums l.sums
