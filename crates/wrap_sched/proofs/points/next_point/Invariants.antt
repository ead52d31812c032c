use Rattle.std.proofs.Common.{take}
use Rattle.std.specs.List.{list_any}
use Rattle.sched_base.specs.Boundaries.{task_boundary}
use Rattle.wrap_sched.specs.Steps.{IsNext}
use Rattle.wrap_sched.proofs.points.next_point.Given as goal

abbrev pub invariant-loop-task : goal.invariant-loop-task
invariant-loop-task l = IsNext (λ k. list_any (λ task. task_boundary task k) (take l.task-index l.tasks)) l.set.horizon l.x l.next
