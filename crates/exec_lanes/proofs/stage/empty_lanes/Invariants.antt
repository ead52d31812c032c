use Rattle.std.proofs.Common.{◌≡◌, ◌<◌, ◌≤◌, ◌++◌, ℕ, Some, length}
use Rattle.std.specs.Prelude.{slice_get}
use Rattle.exec_lanes.specs.Lanes.{lane_in}
use Rattle.exec_lanes.specs.Kits.{KitAt, IsGateOf}
use Rattle.exec_lanes.proofs.stage.empty_lanes.Given as goal

abbrev pub invariant-loop-lane : goal.invariant-loop-lane
invariant-loop-lane g l = record {
  whole : l.fn.lanes.items ≡ l.yielded ++ l.lane-iterator.rest.items;
  all_kits : length l.kits ≡ length l.initial.kits;
  all_seats : length l.seats ≡ length l.initial.seats;
  put : (p : ℕ) → p < length l.yielded → (gate : g.row.G.Denot) × KitAt l.kits p gate × IsGateOf g.G.Gate.ran g.G.Gate.faults (lane_in l.fn.lanes.items p) gate;
  kits : (p : ℕ) → length l.yielded ≤ p → slice_get l.kits p ≡ slice_get l.initial.kits p;
  laid : (p : ℕ) → p < length l.yielded → slice_get l.seats p ≡ Some (Some (lane_in l.fn.lanes.items p).seat);
  seats : (p : ℕ) → length l.yielded ≤ p → slice_get l.seats p ≡ slice_get l.initial.seats p;
}
