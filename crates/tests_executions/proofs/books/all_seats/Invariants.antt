use Rattle.std.proofs.Common.{◌≡◌, ◌<◌, ◌≤◌, ℕ, Some}
use Rattle.std.specs.Prelude.{slice_get}
use Rattle.unit_ledger.specs.Seats.{seat_at_start}
use Rattle.tests_executions.proofs.books.all_seats.Given as goal

abbrev pub invariant-loop-p : goal.invariant-loop-p
invariant-loop-p g l = (q : ℕ) → l.p ≤ q → q < l.processors → slice_get l.seats q ≡ Some (seat_at_start q)
