use Rattle.std.proofs.Common.{◌≡◌, ◌≤◌, ℕ}
use Rattle.std.specs.Prelude.{slice_get}
use Rattle.tests_commands.proofs.tests.calls.told_by.Given as goal

abbrev pub invariant-loop-i : goal.invariant-loop-i
invariant-loop-i g l = (t : ℕ) → l.i ≤ t → slice_get l.jobs.places t ≡ slice_get l.initial.jobs.places t
