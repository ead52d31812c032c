use Rattle.std.proofs.Common.{◌≡◌, map, take}
use Rattle.merged_rows.specs.Forms.{begun_full}
use Rattle.merged_rows.proofs.growth.moved_full.Given as goal

abbrev pub invariant-loop-row : goal.invariant-loop-row
invariant-loop-row g l = map begun_full l.moved.items ≡ map g.F.RowForm.begun (take l.row-index l.rows)
