-- Tasks as a document writes them, before their limits are known.
use Rattle.std.specs.Prelude.{ℕ, ℤ, pos, negsuc, List, [], ◌∷◌}
use Rattle.toml.specs.Data.{Data, table, Items, no_items, item, Members, no_members}
use Rattle.sched_base.specs.declared.sets.Task.{Task}
use Rattle.task_reader.specs.declared.refusals.Key.TheVariants as key
use Rattle.task_reader.specs.Tree.{number_at, text_at}

-- a task with whatever numbers stand in its table
pub record WrittenTask : Type 0 where
  pub name : List ℕ
  pub work : ℤ
  pub period : ℤ
  pub offset : ℤ

-- what a table writes
abbrev pub written_in : Members → WrittenTask
written_in ms = record { name = text_at key.Name ms; work = number_at key.Work ms; period = number_at key.Period ms; offset = number_at key.Offset ms }

-- what a value of the array writes; one that is no table is refused before it is looked at
abbrev pub written_by : Data → WrittenTask
written_by (table ms) = written_in ms
written_by _ = written_in no_members

-- what the values of the array write, in order
abbrev pub written_tasks : Items → List WrittenTask
written_tasks no_items = []
written_tasks (item d ds) = written_by d ∷ written_tasks ds

-- the number that a whole number is; one below 0 is refused before
abbrev pub natural : ℤ → ℕ
natural (pos n) = n
natural (negsuc n) = 0

-- the task that is written
abbrev pub task_of : WrittenTask → Task
task_of t = record { name = t.name; work = natural t.work; period = natural t.period; offset = natural t.offset }
