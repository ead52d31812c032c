use Rattle.trace_verdict.proofs.DueLemmas.{Reaches}
use Rattle.trace_verdict.proofs.searches.first_unsupplied.Given as goal

abbrev pub invariant-loop-task : goal.invariant-loop-task
invariant-loop-task l = Reaches l.set l.scale l.rows l.by_task l.task l.rest
