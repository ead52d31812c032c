use Rattle.std.proofs.Common.{map, take}
use Rattle.row_totals.specs.Sums.{Adds}
use Rattle.merged_rows.specs.Columns.{rows_up_to}
use Rattle.merged_rows.proofs.columns.add_rows.Given as goal

abbrev pub invariant-loop-i : goal.invariant-loop-i
invariant-loop-i g l = Adds (take l.i (rows_up_to l.p l.end (map g.R.RowForm.begun l.rows))) l.fn.sums l.sums
