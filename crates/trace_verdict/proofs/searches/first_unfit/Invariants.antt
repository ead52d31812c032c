use Rattle.std.proofs.Common.{◌≡◌, ℕ, ◌<◌, true}
use Rattle.trace_verdict.specs.Faults.{row_at}
use Rattle.trace_verdict.specs.Searches.{is_fit}
use Rattle.trace_verdict.proofs.searches.first_unfit.Given as goal

abbrev pub invariant-loop-i : goal.invariant-loop-i
invariant-loop-i l = (j : ℕ) → j < l.i → is_fit l.set l.scale (row_at l.rows j) ≡ true
