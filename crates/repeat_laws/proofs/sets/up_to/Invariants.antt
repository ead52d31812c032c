use Rattle.std.proofs.Common.{◌≡◌, take}
use Rattle.repeat_laws.proofs.sets.up_to.Given as goal

abbrev pub invariant-loop-task : goal.invariant-loop-task
invariant-loop-task l =
    (l.again.processors ≡ l.initial.again.processors) × (l.again.horizon ≡ l.initial.again.horizon) × (l.again.tasks ≡ take l.task-index l.task-items)
