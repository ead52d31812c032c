use Rattle.run_tool.specs.Executions.{jobs_of}
use Rattle.run_tool.proofs.ReadyLemmas.{AreMade}
use Rattle.tests_commands.proofs.tests.threads.drops.run_lasting.OwnLists.{own-1}
use Rattle.tests_commands.proofs.tests.threads.drops.run_lasting.Given as goal

abbrev pub invariant-loop-id : goal.invariant-loop-id
invariant-loop-id g l = AreMade l.id l.jobs.room (jobs_of (λ j. (own-1.entry j.vtable).1.id j.value) (λ j. (own-1.entry j.vtable).1.used j.value)
    (λ j. (own-1.entry j.vtable).1.faults j.value) (λ j. (own-1.entry j.vtable).1.made j.value) l.jobs.places)
