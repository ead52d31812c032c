use Rattle.std.proofs.Common.{◌≡◌, length}
use Rattle.exec_lanes.specs.Ends.{KeepsCounts}
use Rattle.exec_lanes.proofs.ends.note_faults.Given as goal

abbrev pub invariant-loop-lane : goal.invariant-loop-lane
invariant-loop-lane g l = (length l.counts ≡ length l.initial.counts) × KeepsCounts l.lanes l.lane-index l.initial.counts l.counts
