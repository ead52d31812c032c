use Rattle.std.proofs.Common.{◌≡◌, ℕ, ◌<◌}
use Rattle.sched_base.specs.Sets.{task_at}
use Rattle.repeat_laws.proofs.sets.first_late.Given as goal

abbrev pub invariant-loop-i : goal.invariant-loop-i
invariant-loop-i l = (k : ℕ) → k < l.i → (task_at l.tasks k).offset ≡ 0
