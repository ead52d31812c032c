use Rattle.std.proofs.Common.{◌≡◌, ◌≤◌, ◌*◌, take}
use Rattle.sched_base.specs.Scale.{total_of}
use Rattle.rate_scale.proofs.rates.total.Given as goal

abbrev pub invariant-loop-task : goal.invariant-loop-task
invariant-loop-task l = (l.sum ≡ total_of l.scale (take l.task-index l.tasks)) × (l.sum ≤ l.task-index * l.scale)
