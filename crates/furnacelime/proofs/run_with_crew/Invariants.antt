use Rattle.std.proofs.Common.{[], Some}
use Rattle.run_tool.specs.Executions.{jobs_of}
use Rattle.run_tool.proofs.ReadyLemmas.{AreMade, AreMadeOf}
use Rattle.furnacelime.proofs.run_with_crew.OwnLists.{own-1}
use Rattle.furnacelime.proofs.run_with_crew.Given as goal

abbrev pub invariant-loop-id : goal.invariant-loop-id
invariant-loop-id g l =
    let jobs = jobs_of (λ j. (own-1.entry j.vtable).1.id j.value) (λ j. (own-1.entry j.vtable).1.used j.value)
    (λ j. (own-1.entry j.vtable).1.faults j.value) (λ j. (own-1.entry j.vtable).1.made j.value) l.jobs.places in
    AreMade l.id l.jobs.room jobs × AreMadeOf (Some (1, [])) jobs
