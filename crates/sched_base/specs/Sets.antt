-- A set of periodic tasks.
use Rattle.std.specs.Prelude.{◌≡◌, ◌≢◌, ℕ, ◌≤◌, ◌<◌, ◌^◌, true, List, [], ◌∷◌, length, slice_index_or}
use Rattle.std.specs.List.{AllByRecursion}
use Rattle.sched_base.specs.Names.{is_lawful_name}
use Rattle.sched_base.specs.Limits.{processor_limit, task_limit}
use Rattle.sched_base.specs.declared.sets.Task.{Task}

-- what a set says: processors, the horizon in units, and the tasks in order
pub record SetContents : Type 0 where
  pub processors : ℕ
  pub horizon : ℕ
  pub tasks : List Task

-- stands where a list has no such task, and is never looked at
abbrev pub no_task : Task
no_task = record { name = []; work = 0; period = 0; offset = 0 }

-- task j
abbrev pub task_at : List Task → ℕ → Task
task_at tasks j = slice_index_or tasks j no_task

-- a task within the limits; units below 2 ^ 32 are at most `unit_limit`
pub record IsLawfulTask (t : Task) : Type 0 where
  pub name : is_lawful_name t.name ≡ true
  pub some_work : 1 ≤ t.work
  pub work_fits : t.work ≤ t.period
  pub period_fits : t.period < 2 ^ 32
  pub offset_fits : t.offset < 2 ^ 32

-- no task has this name
abbrev pub IsFree : List ℕ → List Task → Type 0
IsFree name tasks = AllByRecursion (λ t. t.name ≢ name) tasks

-- no two tasks have the same name
abbrev pub NamesDiffer : List Task → Type 0
NamesDiffer [] = Unit {0}
NamesDiffer (t ∷ tasks) = IsFree t.name tasks × NamesDiffer tasks

-- the limits of a set
pub record IsLawful (s : SetContents) : Type 0 where
  pub some_processors : 1 ≤ s.processors
  pub few_processors : s.processors ≤ processor_limit
  pub some_horizon : 1 ≤ s.horizon
  pub horizon_fits : s.horizon < 2 ^ 32
  pub few_tasks : length s.tasks ≤ task_limit
  pub each : AllByRecursion IsLawfulTask s.tasks
  pub names_differ : NamesDiffer s.tasks
