use Rattle.merged_rows.specs.Columns.{AreGoingOn}
use Rattle.merged_rows.proofs.merging.show_changed.Given as goal

abbrev pub invariant-loop-k : goal.invariant-loop-k
invariant-loop-k l = AreGoingOn l.initial.lanes l.start l.changed l.told l.lanes l.k
