use Rattle.std.proofs.Common.{ℕ, ◌<◌, ◌≤◌, ◌^◌}
use Rattle.sched_base.specs.Sets.{task_at}
use Rattle.merged_rounds.proofs.releases.last_release.Given as goal

abbrev pub invariant-loop-task : goal.invariant-loop-task
invariant-loop-task l = (l.last < 2 ^ 32) × ((k : ℕ) → k < l.task-index → (task_at l.plan.set.tasks k).offset ≤ l.last)
