-- The trees that write a set, in whatever way the document is laid out.
use Rattle.std.specs.Prelude.{◌≡◌, ℕ, pos, true, List, [], ◌∷◌, Option, Some, None, IsSome}
use Rattle.toml.specs.Data.{Data, string, integer, array, table, Items, no_items, item, Members, get_member}
use Rattle.sched_base.specs.declared.sets.Task.{Task}
use Rattle.sched_base.specs.Sets.{SetContents}
use Rattle.task_reader.specs.declared.refusals.Key.TheVariants as key
use Rattle.task_reader.specs.declared.refusals.Place.{Place}
use Rattle.task_reader.specs.declared.refusals.Place.TheVariants as place
use Rattle.task_reader.specs.Keys.{key_text, is_known}

-- the table has no other key than those of its place
abbrev pub HasOnlyKnown : Place → Members → Type 0
HasOnlyKnown p ms = (text : List ℕ) → IsSome (get_member text ms) → is_known p text ≡ true

-- the value of the key `offset`, if it is there; a task without it has offset 0
abbrev pub WritesOffset : Option Data → ℕ → Type 0
WritesOffset None offset = offset ≡ 0
WritesOffset (Some d) offset = d ≡ integer (pos offset)

-- the table writes the task
pub record WritesTask (ms : Members) (t : Task) : Type 0 where
  pub name : get_member (key_text key.Name) ms ≡ Some (string t.name)
  pub work : get_member (key_text key.Work) ms ≡ Some (integer (pos t.work))
  pub period : get_member (key_text key.Period) ms ≡ Some (integer (pos t.period))
  pub offset : WritesOffset (get_member (key_text key.Offset) ms) t.offset
  pub only : HasOnlyKnown (place.Task 0) ms

-- the values are tables that write the tasks, one each and in order
abbrev pub WritesTasks : Items → List Task → Type 0
WritesTasks no_items [] = Unit {0}
WritesTasks no_items (t ∷ ts) = ⊥
WritesTasks (item d ds) [] = ⊥
WritesTasks (item d ds) (t ∷ ts) = ((ms : Members) × (d ≡ table ms) × WritesTask ms t) × WritesTasks ds ts

-- the value of the key `task`, if it is there; a set without it has no tasks
abbrev pub WritesArray : Option Data → List Task → Type 0
WritesArray None ts = ts ≡ []
WritesArray (Some d) ts = (ds : Items) × (d ≡ array ds) × WritesTasks ds ts

-- the top table writes the set
pub record Writes (top : Members) (s : SetContents) : Type 0 where
  pub processors : get_member (key_text key.Processors) top ≡ Some (integer (pos s.processors))
  pub horizon : get_member (key_text key.Horizon) top ≡ Some (integer (pos s.horizon))
  pub tasks : WritesArray (get_member (key_text key.Task) top) s.tasks
  pub only : HasOnlyKnown place.Top top
