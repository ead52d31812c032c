use Rattle.tests_executions.proofs.RunLemmas.{AreUnrunSoFar}
use Rattle.tests_executions.proofs.executions.many_workers.kits_of.Given as goal

abbrev pub invariant-loop-p : goal.invariant-loop-p
invariant-loop-p g l = AreUnrunSoFar l.p l.kits.items
