-- The boundaries of a task, in units: 0, and each release.
use Rattle.std.specs.Prelude.{ℕ, ◌-◌, ◌%◌, ◌==◌, ◌&&◌, ◌||◌, nat_le, Bool}
use Rattle.sched_base.specs.declared.sets.Task as declared

-- a task has boundaries at 0, at its offset, and a period after each further one
abbrev pub task_boundary : declared.Task → ℕ → Bool
task_boundary task u = u == 0 || (nat_le task.offset u && (u - task.offset) % task.period == 0)
