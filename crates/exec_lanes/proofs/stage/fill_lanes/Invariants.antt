use Rattle.std.proofs.Common.{◌≡◌, ◌<◌, ◌≤◌, ℕ, None, Some, length}
use Rattle.std.specs.Prelude.{slice_get}
use Rattle.std.specs.Vec.{vec_len, vec_capacity}
use Rattle.exec_lanes.specs.Lanes.{lane_in}
use Rattle.exec_lanes.specs.Kits.{KitAt, IsLent, lane_at_start}
use Rattle.exec_lanes.proofs.stage.fill_lanes.Given as goal

abbrev pub invariant-loop-p : goal.invariant-loop-p
invariant-loop-p g l = record {
  count : vec_len l.lanes ≡ l.p;
  room : vec_capacity l.lanes ≡ vec_capacity l.initial.lanes;
  all_kits : length l.kits ≡ length l.initial.kits;
  all_seats : length l.seats ≡ length l.initial.seats;
  filled : (p : ℕ) (gate : g.row.G.Denot) → p < l.p → KitAt l.initial.kits p gate → lane_in l.lanes.items p ≡ lane_at_start g.G.Gate.ran g.G.Gate.faults p gate;
  out : (p : ℕ) → p < l.p → IsLent l.kits p;
  other_kits : (p : ℕ) → l.p ≤ p → slice_get l.kits p ≡ slice_get l.initial.kits p;
  lifted : (p : ℕ) → p < l.p → slice_get l.seats p ≡ Some None;
  other_seats : (p : ℕ) → l.p ≤ p → slice_get l.seats p ≡ slice_get l.initial.seats p;
}
