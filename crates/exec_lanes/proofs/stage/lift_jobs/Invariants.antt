use Rattle.std.proofs.Common.{◌≡◌, ◌<◌, ◌≤◌, ◌+◌, ℕ, None, Some, length}
use Rattle.std.specs.Prelude.{slice_get}
use Rattle.exec_lanes.proofs.stage.lift_jobs.Given as goal

abbrev pub invariant-loop-t : goal.invariant-loop-t
invariant-loop-t g l = record {
  count : length l.out.places ≡ l.t;
  left : l.out.room + l.t ≡ l.initial.out.room;
  moved : (t : ℕ) → t < l.t → slice_get l.out.places t ≡ slice_get l.initial.jobs.places t;
  lifted : (t : ℕ) → t < l.t → slice_get l.jobs.places t ≡ Some None;
  others : (t : ℕ) → l.t ≤ t → slice_get l.jobs.places t ≡ slice_get l.initial.jobs.places t;
  room : l.jobs.room ≡ l.initial.jobs.room;
  all : length l.jobs.places ≡ length l.initial.jobs.places;
}
