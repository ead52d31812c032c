use Rattle.std.proofs.Common.{length}
use Rattle.event_core.proofs.TickLemmas.{AreNumbered}
use Rattle.event_core.proofs.ticks.number_all.Given as goal

abbrev pub invariant-loop-x : goal.invariant-loop-x
invariant-loop-x l = AreNumbered l.number l.nodes l.front l.back l.x (length l.tree.nodes)
