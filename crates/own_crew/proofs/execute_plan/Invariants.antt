use Rattle.std.proofs.Common.{◌≡◌, ◌+◌, length}
use Rattle.exec_workers.specs.Runs.{AreFresh}
use Rattle.own_crew.proofs.execute_plan.OwnLists.{own-1}
use Rattle.own_crew.proofs.execute_plan.Given as goal

abbrev pub invariant-loop-id : goal.invariant-loop-id
invariant-loop-id g l = record {
  room : l.jobs.room + l.id ≡ l.tasks;
  long : length l.jobs.places ≡ l.id;
  fresh : AreFresh (λ j. (own-1.entry j.vtable).1.id j.value) (λ j. (own-1.entry j.vtable).1.used j.value) l.id l.jobs.places;
}
