use Rattle.std.proofs.Common.{◌≡◌, [], replicate}
use Rattle.merged_rows.proofs.merging.MergedRows.new.Given as goal

abbrev pub invariant-loop-p : goal.invariant-loop-p
invariant-loop-p l = l.lanes.items ≡ replicate l._p []
