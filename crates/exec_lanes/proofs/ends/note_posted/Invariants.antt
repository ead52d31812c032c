use Rattle.std.proofs.Common.{◌≡◌, ◌<◌, ℕ, length}
use Rattle.std.specs.Prelude.{slice_index}
use Rattle.exec_lanes.specs.Lanes.{lane_in}
use Rattle.exec_lanes.proofs.ends.note_posted.Given as goal

abbrev pub invariant-loop-p : goal.invariant-loop-p
invariant-loop-p g l = (length l.posted ≡ length l.lanes) × ((q : ℕ) → q < l.p → slice_index l.posted q ≡ (lane_in l.lanes q).seat.posted)
