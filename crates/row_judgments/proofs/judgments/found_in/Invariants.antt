use Rattle.trace_verdict.proofs.FoundLemmas.{FoundTo}
use Rattle.row_judgments.proofs.judgments.found_in.Given as goal

abbrev pub invariant-loop-task : goal.invariant-loop-task
invariant-loop-task l = FoundTo l.set l.scale l.rows l.by_task l.task l.left l.found.items
