use Rattle.std.proofs.Common.{◌≡◌, map, take}
use Rattle.merged_rows.proofs.growth.moved.Given as goal

abbrev pub invariant-loop-row : goal.invariant-loop-row
invariant-loop-row g l = map g.T.RowForm.begun l.moved.items ≡ map g.F.RowForm.begun (take l.row-index l.rows)
