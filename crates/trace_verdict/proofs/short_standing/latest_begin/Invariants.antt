use Rattle.std.proofs.Common.{ℕ, ◌*◌, ◌≤◌, ◌<◌}
use Rattle.sched_base.specs.Sets.{task_at}
use Rattle.trace_verdict.proofs.short_standing.latest_begin.Given as goal

abbrev pub invariant-loop-task : goal.invariant-loop-task
invariant-loop-task l = (j : ℕ) → j < l.task-index → (task_at l.set.tasks j).offset * l.scale ≤ l.latest
