use Rattle.std.proofs.Common.{◌≡◌, take}
use Rattle.merged_rows.specs.Columns.{going_on_each}
use Rattle.merged_rows.proofs.merging.show_told.Given as goal

abbrev pub invariant-loop-p : goal.invariant-loop-p
invariant-loop-p l = l.lanes ≡ going_on_each l.initial.lanes l.start (take l.p l.told)
