use Rattle.std.proofs.Common.{◌≡◌, ℕ, ◌<◌}
use Rattle.trace_verdict.specs.Searches.{key_at}
use Rattle.trace_verdict.proofs.orders.front_len.Given as goal

abbrev pub invariant-loop-i : goal.invariant-loop-i
invariant-loop-i l = (k : ℕ) → k < l.i → key_at l.entries k ≡ l.key
