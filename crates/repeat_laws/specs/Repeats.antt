-- Schedules that begin anew.
use Rattle.std.specs.Prelude.{ℕ, zero, suc, ◌+◌, ◌-◌, ◌*◌, ◌/◌, ◌%◌, ◌<◌, ◌≤◌, ◌≡◌, ◌==◌, ◌&&◌, Bool, nat_le, nat_lt, if◌then◌else◌, max}
use Rattle.std.specs.Prelude.{List, [], ◌++◌, map, filter, length}
use Rattle.std.specs.Int.{◌∣◌}
use Rattle.std.specs.List.{AllByRecursion, list_all, range_with_len}
use Rattle.sched_base.specs.declared.rows.Row.{Row}
use Rattle.sched_base.specs.declared.sets.Task.{Task}
use Rattle.sched_base.specs.Scale.{PeriodsDivide}
use Rattle.sched_base.specs.Sets.{SetContents, task_at}
use Rattle.sched_base.specs.Rows.{task_ticks}
use Rattle.sched_base.specs.Valid.{IsValid}

-- the row so many ticks later
abbrev pub later : ℕ → Row → Row
later ticks r = record r { start = r.start + ticks; end = r.end + ticks }

-- the rows n times, each time so many ticks after the time before
abbrev pub repeated : ℕ → List Row → ℕ → List Row
repeated ticks rows zero = []
repeated ticks rows (suc n) = repeated ticks rows n ++ map (later (n * ticks)) rows

-- the same set up to another horizon
abbrev pub up_to : ℕ → SetContents → SetContents
up_to horizon s = record s { horizon = horizon }

-- task i is the first of which P holds
pub record IsFirstTask (P : Task → Type 0) (tasks : List Task) (i : ℕ) : Type 0 where
  pub within : i < length tasks
  pub holds : P (task_at tasks i)
  pub first : (k : ℕ) → k < i → P (task_at tasks k) → ⊥

-- no period is open at the start of the set's schedule or at its horizon
pub record CanRepeat (s : SetContents) : Type 0 where
  pub no_offset : AllByRecursion (λ t. t.offset ≡ 0) s.tasks
  pub whole_periods : PeriodsDivide s.tasks s.horizon

-- whether that is so
abbrev pub can_repeat : SetContents → Bool
can_repeat s = list_all (λ t. t.offset == 0 && s.horizon % t.period == 0) s.tasks

-- ---- from a tick on

-- the row without what it has before the tick
abbrev pub cut_before : ℕ → Row → Row
cut_before tick r = record r { start = max tick r.start }

-- what the rows have from the tick on
abbrev pub rows_from : ℕ → List Row → List Row
rows_from tick rows = map (cut_before tick) (filter (λ r. nat_lt tick r.end) rows)

-- the rows, and n times more what they have from the tick on, each time so many ticks later
abbrev pub repeated_from : ℕ → ℕ → List Row → ℕ → List Row
repeated_from tick ticks rows zero = rows
repeated_from tick ticks rows (suc n) = repeated_from tick ticks rows n ++ map (later (suc n * ticks)) (rows_from tick rows)

-- the unit at which the period of a task began that is open at unit `from`
abbrev pub open_since : ℕ → Task → ℕ
open_since from t = t.offset + (from - t.offset) / t.period * t.period

-- the ticks that the rows give task j from one unit up to another
abbrev pub given : ℕ → List Row → ℕ → ℕ → ℕ → ℕ
given scale rows j begin end = task_ticks rows j (begin * scale) (end * scale)

-- at unit `from` the rows have given each task as much of its open period as so many units later
pub record StandsAgain (s : SetContents) (scale from units : ℕ) (rows : List Row) : Type 0 where
  pub some : 1 ≤ units
  pub released : AllByRecursion (λ t. t.offset ≤ from) s.tasks
  pub whole_periods : PeriodsDivide s.tasks units
  pub same : (j : ℕ) → j < length s.tasks →
      given scale rows j (open_since from (task_at s.tasks j) + units) (from + units) ≡ given scale rows j (open_since from (task_at s.tasks j)) from

-- each task was released by then, and one of its periods begins there: no period is open at unit `from`
pub record NoneIsOpen (s : SetContents) (from : ℕ) : Type 0 where
  pub released : AllByRecursion (λ t. t.offset ≤ from) s.tasks
  pub begins : AllByRecursion (λ t. t.period ∣ from - t.offset) s.tasks

-- ---- from where on

-- whether task j was released by unit `from`, and the rows have given it as much of its open period there as so many units later
abbrev pub given_again : SetContents → ℕ → ℕ → ℕ → List Row → ℕ → Bool
given_again s scale from units rows j =
    nat_le (task_at s.tasks j).offset from
    && given scale rows j (open_since from (task_at s.tasks j) + units) (from + units) == given scale rows j (open_since from (task_at s.tasks j)) from

-- whether that is so of each task
abbrev pub stands_again : SetContents → ℕ → ℕ → ℕ → List Row → Bool
stands_again s scale from units rows = list_all (given_again s scale from units rows) (range_with_len 0 (length s.tasks))

-- whether the rows up to the horizon stand as a scale's number of units before it
abbrev pub ends_again : SetContents → ℕ → List Row → Bool
ends_again s scale rows = nat_le scale s.horizon && stands_again s scale (s.horizon - scale) scale rows

-- the unit from which the rows up to the horizon come again: the start, where no period is open there or at the horizon; a scale's number of
-- units before the horizon, where they stand again; or the horizon, where they don't come again
unfoldable pub repeat_unit : SetContents → ℕ → List Row → ℕ
repeat_unit s scale rows =
    if can_repeat s then 0
    else (if ends_again s scale rows then s.horizon - scale else s.horizon)

-- the rows up to the horizon are valid with so many times more what they have from this unit on, whatever the number
abbrev pub ComesAgain : SetContents → ℕ → ℕ → List Row → Type 0
ComesAgain s scale from rows =
    (n : ℕ) → IsValid s scale (s.horizon * scale + n * ((s.horizon - from) * scale)) (s.horizon * scale + n * ((s.horizon - from) * scale))
    (repeated_from (from * scale) ((s.horizon - from) * scale) rows n)
