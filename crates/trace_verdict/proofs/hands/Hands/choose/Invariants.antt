use Rattle.std.proofs.Common.{◌<◌}
use Rattle.trace_verdict.proofs.hands.Hands.choose.Given as goal

abbrev pub invariant-up : goal.invariant-up
invariant-up l = l.at < 64

abbrev pub decreases-up : goal.decreases-up
decreases-up l = l.at
