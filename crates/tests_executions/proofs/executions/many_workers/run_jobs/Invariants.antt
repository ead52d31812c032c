use Rattle.tests_executions.proofs.RunLemmas.{AreMade}
use Rattle.tests_executions.proofs.executions.many_workers.run_jobs.OwnLists.{own-1}
use Rattle.tests_executions.proofs.executions.many_workers.run_jobs.Given as goal

abbrev pub invariant-loop-t : goal.invariant-loop-t
invariant-loop-t g l =
    AreMade (λ j. (own-1.entry j.vtable).1.id j.value) (λ j. (own-1.entry j.vtable).1.used j.value) 25 l.t l.jobs.room l.jobs.places
