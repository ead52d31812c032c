use Rattle.event_core.proofs.TickLemmas.{AreSkipped}
use Rattle.event_core.proofs.ticks.next_wide.Given as goal

abbrev pub invariant-loop-k : goal.invariant-loop-k
invariant-loop-k l = AreSkipped l.ticks l.now l.from l.k
