use Rattle.std.proofs.Common.{◌≡◌, take}
use Rattle.trace_verdict.proofs.row_list.RowList.to_vec.Given as goal

abbrev pub invariant-loop-i : goal.invariant-loop-i
invariant-loop-i l = l.rows.items ≡ take l.i l.self
