use Rattle.std.proofs.Common.{◌≡◌, take}
use Rattle.merged_rows.specs.Columns.{showing_each}
use Rattle.merged_rows.proofs.merging.show_each.Given as goal

abbrev pub invariant-loop-p : goal.invariant-loop-p
invariant-loop-p l = l.lanes ≡ showing_each l.initial.lanes l.start (take l.p l.rows)
