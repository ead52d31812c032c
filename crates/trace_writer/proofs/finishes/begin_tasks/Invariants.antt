use Rattle.std.proofs.Common.{ℕ, [], ◌<◌}
use Rattle.sched_base.specs.Sets.{task_at}
use Rattle.trace_writer.specs.Finishes.{HaveRoom, ends_of, IsDoneBy}
use Rattle.trace_writer.proofs.finishes.begin_tasks.Given as goal

abbrev pub invariant-loop-j : goal.invariant-loop-j
invariant-loop-j l = HaveRoom l.set l.finishes × ((i : ℕ) → i < l.j → IsDoneBy l.scale (task_at l.set.tasks i) i [] (ends_of l.finishes i))
