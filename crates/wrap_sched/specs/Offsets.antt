-- The greatest offset of a set.
use Rattle.std.specs.Prelude.{ℕ, ◌<◌, ◌≤◌, ◌≡◌, List, length}
use Rattle.std.specs.List.{AllByRecursion}
use Rattle.sched_base.specs.declared.sets.Task as declared
use Rattle.sched_base.specs.Sets.{task_at}

-- it is the offset of a task, and none is greater
pub record IsGreatestOffset (tasks : List declared.Task) (offset : ℕ) : Type 0 where
  pub some : (i : ℕ) × (i < length tasks) × ((task_at tasks i).offset ≡ offset)
  pub released : AllByRecursion (λ t. t.offset ≤ offset) tasks
