use Rattle.std.proofs.Common.{◌≡◌, ◌<◌, ℕ, None}
use Rattle.exec_lanes.specs.Lanes.{lane_in}
use Rattle.exec_lanes.proofs.ends.any_failed.Given as goal

abbrev pub invariant-loop-lane : goal.invariant-loop-lane
invariant-loop-lane g l = (p : ℕ) → p < l.lane-index → (lane_in l.lanes p).cause ≡ None
