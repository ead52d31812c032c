use Rattle.std.proofs.Common.{◌≡◌, ◌<◌, ℕ, true}
use Rattle.table_text.specs.Given.{is_given_again}
use Rattle.table_text.proofs.repeat.are_given_again.Given as goal

abbrev pub invariant-loop-j : goal.invariant-loop-j
invariant-loop-j l = (k : ℕ) → k < l.j → is_given_again l.tasks l.from l.before l.after k ≡ true
