use Rattle.std.proofs.Common.{◌≡◌, take}
use Rattle.trace_verdict.proofs.row_list.RowList.«of».Given as goal

abbrev pub invariant-loop-row : goal.invariant-loop-row
invariant-loop-row l = l.list ≡ take l.row-index l.row-items
