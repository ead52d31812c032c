use Rattle.std.proofs.Common.{◌≡◌, ℕ, ◌<◌, None, get_or}
use Rattle.round_looks.proofs.forget.Given as goal

abbrev pub invariant-loop-q : goal.invariant-loop-q
invariant-loop-q l = (k : ℕ) → k < l.q → get_or l.told k None ≡ None
