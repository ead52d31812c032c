use Rattle.trace_verdict.proofs.TimedLemmas.{Gathered}
use Rattle.trace_verdict.proofs.timed.found_of.Given as goal

abbrev pub invariant-loop-task : goal.invariant-loop-task
invariant-loop-task l = Gathered l.set l.scale l.rows l.task l.count l.found.items
