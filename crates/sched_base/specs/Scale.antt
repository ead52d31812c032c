-- The scale of a set, the rates of its tasks, and whether they fit. One unit is `scale` ticks.
use Rattle.std.specs.Prelude.{ℕ, ◌+◌, ◌*◌, ◌/◌, ◌<◌, ◌≤◌, List, length, take}
use Rattle.std.specs.List.{AllByRecursion, sum_by}
use Rattle.std.specs.Int.{◌∣◌}
use Rattle.sched_base.specs.declared.sets.Task.{Task}
use Rattle.sched_base.specs.Sets.{SetContents}

-- each period divides the number
abbrev pub PeriodsDivide : List Task → ℕ → Type 0
PeriodsDivide tasks n = AllByRecursion (λ t. t.period ∣ n) tasks

-- the least positive number that every period divides; 1 where there is no task
pub record IsScale (tasks : List Task) (scale : ℕ) : Type 0 where
  pub positive : 1 ≤ scale
  pub divided : PeriodsDivide tasks scale
  pub least : (n : ℕ) → 1 ≤ n → PeriodsDivide tasks n → scale ≤ n

-- the tasks before this one have a scale within the limit, and with it they have one past the limit
pub record PassesAt (limit : ℕ) (tasks : List Task) (at : ℕ) : Type 0 where
  pub within : at < length tasks
  pub before : (scale : ℕ) × IsScale (take at tasks) scale × (scale ≤ limit)
  pub after : (scale : ℕ) × IsScale (take (at + 1) tasks) scale × (limit < scale)

-- the ticks that a task is given in each unit
abbrev pub rate_of : ℕ → Task → ℕ
rate_of scale t = t.work * scale / t.period

-- the rates of all tasks together
abbrev pub total_of : ℕ → List Task → ℕ
total_of scale tasks = sum_by (rate_of scale) tasks

-- the ticks that the processors have in each unit
abbrev pub room_of : ℕ → SetContents → ℕ
room_of scale s = s.processors * scale

-- the tasks ask for no more than the processors have
abbrev pub Fits : ℕ → SetContents → Type 0
Fits scale s = total_of scale s.tasks ≤ room_of scale s
