-- The rows of all tasks, as they go by in the order of time.
use Rattle.std.specs.Prelude.{ℕ, ◌+◌, ◌-◌, ◌*◌, ◌<◌, ◌≤◌, ◌≡◌, ◌++◌, ◌==◌, nat_le, if◌then◌else◌, true, List, [], length, map, slice_index_or}
use Rattle.std.specs.List.{AllByRecursion}
use Rattle.sched_base.specs.declared.rows.Row.{Row}
use Rattle.sched_base.specs.Sets.{SetContents, task_at}
use Rattle.trace_verdict.specs.declared.entries.Entry.{Entry}
use Rattle.trace_verdict.specs.declared.findings.Findings.{Findings}
use Rattle.trace_verdict.specs.declared.supply.Periods.{Periods}
use Rattle.trace_verdict.specs.declared.tally.Tally.{Tally}
use Rattle.trace_verdict.specs.declared.task_walks.Near.{Near}
use Rattle.trace_verdict.specs.declared.task_walks.TaskWalk.{TaskWalk}
use Rattle.trace_verdict.specs.declared.walks.Walk.{Walk}
use Rattle.trace_verdict.specs.Faults.{row_at}
use Rattle.trace_verdict.specs.Findings.{pairs, is_preemption, is_migration, goes_on, row_response, greatest_of, IsTold, AreTold}
use Rattle.trace_verdict.specs.Orders.{task_key}
use Rattle.trace_verdict.specs.Searches.{periods_of, IsFirstHit, IsFirstUnsupplied}
use Rattle.trace_verdict.specs.Supplied.{IsPlaceOf, entries_at, GoSupplied, StandsAt, Holds}
use Rattle.trace_verdict.specs.Supply.{AreLawful, Follows, bound_at, ended_by, gap_holds, row_holds, holds_from}
use Rattle.trace_verdict.specs.Tally.{KeepsPace, preempted, moved, slowest}

-- the walk went through the rows of task j at these places: whatever follows, where the rest holds from where it stands, all of it holds
pub record Walked (p : Periods) (rows : List Row) (j : ℕ) (places : List ℕ) (w : Walk) : Type 0 where
  pub own : AllByRecursion (IsPlaceOf rows j) places
  pub apart : (rest : List Entry) → Holds p w rest → Follows p.stop p.base (entries_at rows j places ++ rest)
  pub due : (rest : List Entry) → Holds p w rest → holds_from p 0 p.base (entries_at rows j places ++ rest) ≡ true

-- the tally went through these rows: whatever follows, it comes to what all of them tell
pub record Tallied (p : Periods) (rows : List Row) (t : Tally) : Type 0 where
  pub pace : KeepsPace p t
  pub preempted : (rest : List Row) → preempted p t rest ≡ pairs (goes_on is_preemption p) (rows ++ rest)
  pub moved : (rest : List Row) → moved p t rest ≡ pairs (goes_on is_migration p) (rows ++ rest)
  pub slowest : (rest : List Row) → slowest p t rest ≡ greatest_of (row_response p) (rows ++ rest)
  pub few_preempted : t.found.preemptions ≤ length rows
  pub few_moved : t.found.migrations ≤ length rows

-- the walk that has gone past the same rows
abbrev pub walk_of : TaskWalk → Walk
walk_of t = record { clock = record { base = t.periods.base; span = t.periods.period; number = ended_by t.periods t.tick }; tick = t.tick; done = t.done }

-- the tally of the same rows
abbrev pub tally_of : TaskWalk → Tally
tally_of t = record {
  clock = record { base = t.periods.base; span = t.periods.period; number = ended_by t.periods (t.before.end - 1) };
  before = t.before;
  last = ended_by t.periods (t.before.end - 1);
  ended = ended_by t.periods t.periods.stop;
  found = t.found;
}

-- the walk may go on, and where the task begins after the end of the schedule no row may go by
pub record IsReady (t : TaskWalk) : Type 0 where
  pub lawful : AreLawful t.periods
  pub stands : t.periods.base ≤ t.periods.stop → StandsAt t.periods (walk_of t)
  pub late : t.periods.stop < t.periods.base → t.limit ≡ 0

-- the period that is kept is that of the last row's last tick
pub record IsPaced (t : TaskWalk) : Type 0 where
  pub number : ℕ
  pub begin : t.begin ≡ bound_at t.periods number
  pub next : t.next ≡ t.begin + t.periods.period
  pub owed : t.owed ≡ (number + 1) * t.periods.due
  pub tick : t.tick ≡ t.before.end
  pub begun : t.begin < t.tick
  pub ends : t.tick ≤ t.next

-- the tick lies in this period, in the period of the last row or not, and the gap up to it keeps to what is due
pub record BeginsIn (t : TaskWalk) (x : ℕ) (n : Near) : Type 0 where
  pub number : ℕ
  pub begin : n.begin ≡ bound_at t.periods number
  pub next : n.next ≡ n.begin + t.periods.period
  pub owed : n.owed ≡ (number + 1) * t.periods.due
  pub begun : n.begin ≤ x
  pub ends : x < n.next
  pub same : n.same ≡ (ended_by t.periods (t.before.end - 1) == number)
  pub gap : gap_holds t.periods t.done t.tick x ≡ true

-- the row lies in this period and keeps to what is due
pub record IsNear (t : TaskWalk) (r : Row) (n : Near) : Type 0 where
  pub period : BeginsIn t r.start n
  pub ends : r.end ≤ n.next
  pub row : row_holds t.periods t.done r.start r.end ≡ true

-- the ticks from the period's begin to this tick, where the period ends by `stop`
abbrev pub finished : Near → ℕ → ℕ → ℕ
finished n stop x = if nat_le n.next stop then x - n.begin else 0

-- rows of task j went by, as many as were counted, in the order of time and apart
pub record HasGone (rows : List Row) (j : ℕ) (t : TaskWalk) : Type 0 where
  pub ready : IsReady t
  pub places : List ℕ
  pub count : t.count ≡ length places
  pub room : t.count ≤ t.limit
  pub walked : t.periods.base ≤ t.periods.stop → Walked t.periods rows j places (walk_of t)
  pub none : places ≡ [] → IsTold t.periods [] t.found
  pub tallied : 0 < length places → Tallied t.periods (map (row_at rows) places) (tally_of t)
  pub paced : 0 < length places → IsPaced t

-- so many rows of task j give each period its due, and this is what they tell
pub record EndsAs (p : Periods) (rows : List Row) (j n : ℕ) (f : Findings) : Type 0 where
  pub places : List ℕ
  pub many : n ≡ length places
  pub supplied : GoSupplied p rows j places
  pub told : IsTold p (map (row_at rows) places) f

-- of the tasks from j on, rows have gone by
pub record AreGoing (s : SetContents) (scale : ℕ) (rows : List Row) (j : ℕ) (walks : List TaskWalk) : Type 0 where
  pub each : (i : ℕ) (none : TaskWalk) → j ≤ i → i < length walks → HasGone rows i (slice_index_or walks i none)
  pub periods : (i : ℕ) (none : TaskWalk) → i < length walks → (slice_index_or walks i none).periods ≡ periods_of s scale (task_at s.tasks i)

-- no two rows of a task overlap, each task has what it is to have, and this is what the rows of each task tell
pub record AreTimed (s : SetContents) (scale : ℕ) (rows : List Row) (found : List Findings) : Type 0 where
  pub apart : IsFirstHit task_key rows (length rows)
  pub supplied : IsFirstUnsupplied s scale rows (length s.tasks)
  pub told : AreTold s scale rows found
  pub all : length found ≡ length s.tasks
