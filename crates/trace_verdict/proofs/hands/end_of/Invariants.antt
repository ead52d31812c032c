use Rattle.std.proofs.Common.{◌-◌}
use Rattle.trace_verdict.proofs.hands.end_of.Given as goal

abbrev pub decreases-halves : goal.decreases-halves
decreases-halves l = l.high - l.low
