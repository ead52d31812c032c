use Rattle.std.proofs.Common.{◌≡◌, take, set}
use Rattle.trace_check.proofs.period_ends.Ends.widen_with.Given as goal

abbrev pub invariant-loop-k : goal.invariant-loop-k
invariant-loop-k l = l.long.items ≡ take l.k (set l.fn.self l.i l.end)
