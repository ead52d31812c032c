use Rattle.std.proofs.Common.{◌≡◌, ◌<◌, ◌≤◌, ℕ, length}
use Rattle.std.specs.Prelude.{slice_get}
use Rattle.exec_lanes.proofs.stage.lay_jobs.Given as goal

abbrev pub invariant-loop-t : goal.invariant-loop-t
invariant-loop-t g l = record {
  laid : (t : ℕ) → t < l.t → slice_get l.jobs.places t ≡ slice_get l.initial.back.places t;
  left : (t : ℕ) → l.t ≤ t → slice_get l.back.places t ≡ slice_get l.initial.back.places t;
  others : (t : ℕ) → l.t ≤ t → slice_get l.jobs.places t ≡ slice_get l.initial.jobs.places t;
  room : l.jobs.room ≡ l.initial.jobs.room;
  all : length l.jobs.places ≡ length l.initial.jobs.places;
}
