-- The rows of a plan that are computed and not yet let go, round by round.
use Rattle.std.specs.Prelude.{ℕ, ◌≡◌, ◌<◌, ◌≤◌, ◌+◌, ◌-◌, ◌*◌, ◌^◌, List, Some, length, slice_get, slice_index, slice_set}
use Rattle.sched_base.specs.declared.rows.Leaf.{Leaf}
use Rattle.sched_base.specs.declared.rows.Leaf.TheVariants.{Task, Wait, Idle, Empty}
use Rattle.sched_base.specs.declared.rows.Row.{Row}
use Rattle.sched_base.specs.declared.rows.TaskId.{TaskId}
use Rattle.sched_base.specs.Lanes.{lanes_of}
use Rattle.sched_base.specs.Tables.{Table, RowAt, ticks_before, ticks_in}
use Rattle.run_tree.specs.Plans.{PlanContents, rounds_of}
use Rattle.event_core.specs.Rounds.{rows_before, rounds_before}
use Rattle.book_machine.specs.Machine.{State, least_posted}
use Rattle.circular_buffer.specs.Buffer.{Buffer}
use Rattle.plan_rounds.specs.PlanRows.{RoundsContents, plan_rows}
use Rattle.plan_rounds.specs.Parts.{RowsKept}
use Rattle.book_steps.specs.declared.ring.PendingRow.{PendingRow}
use Rattle.book_steps.specs.Sources.{GoesOnWithPlan, SourceContents, recurrence}

-- the rows computed and not yet let go, and what is counted of them
pub record PendingContents : Type 0 where
  pub source : SourceContents
  -- how many rows of one round there is room for
  pub width : ℕ
  -- the rows of the rounds that are held, round by round and in each processor by processor, and how many places there are
  pub held : Buffer PendingRow
  -- how many rounds are computed, and of each task the ticks of its rows in them
  pub computed : ℕ
  pub given : List ℕ
  -- of each processor, and in it of each task, the number of rounds up to the last computed one in which the task has a row there
  pub last : List ℕ

-- the ticks that a leaf's task was given
abbrev pub given_to : List ℕ → Leaf → ℕ
given_to given (Task task) = slice_index given task.0
given_to given (Wait task) = 0
given_to given (Idle number) = 0
given_to given Empty = 0

-- a row with the ticks that its task was given before
abbrev pub pending : List ℕ → Row → PendingRow
pending given r = record { row = r; before = given_to given r.leaf }

-- each task was given the ticks of these rows besides
pub record AreCounted (old : List ℕ) (rows : List Row) (new : List ℕ) : Type 0 where
  pub many : length new ≡ length old
  pub each : (t : ℕ) → t < length old → slice_index new t ≡ slice_index old t + ticks_in t rows

-- the ticks of these rows can be counted
pub record CanCount (given : List ℕ) (rows : List Row) : Type 0 where
  pub forward : (q : ℕ) (r : Row) → slice_get rows q ≡ Some r → r.start ≤ r.end
  pub tasks : (q : ℕ) (r : Row) (task : TaskId) → slice_get rows q ≡ Some r → r.leaf ≡ Task task → task.0 < length given
  pub fits : (t : ℕ) → t < length given → slice_index given t + ticks_in t rows < 2 ^ 127

-- the number of rounds up to the last computed one in which processor q can have a row of the leaf
abbrev pub last_of : List ℕ → ℕ → ℕ → ℕ → Leaf → ℕ
last_of last tasks computed q (Task task) = slice_index last (q * tasks + task.0)
last_of last tasks computed q (Wait task) = computed
last_of last tasks computed q (Idle number) = computed
last_of last tasks computed q Empty = computed

-- the last rounds, with this one as that of processor q and the leaf's task
abbrev pub with_last : List ℕ → ℕ → ℕ → ℕ → Leaf → List ℕ
with_last last tasks round q (Task task) = slice_set last (q * tasks + task.0) round
with_last last tasks round q (Wait task) = last
with_last last tasks round q (Idle number) = last
with_last last tasks round q Empty = last

-- there is a place for the processor and the task of each of these rows, of one round
abbrev pub CanNote : ℕ → List Row → ℕ → Type 0
CanNote tasks rows places = (q : ℕ) (r : Row) (task : TaskId) → slice_get rows q ≡ Some r → r.leaf ≡ Task task → q * tasks + task.0 < places

-- each of these rows has the round with this number as the last one of its processor and task, and no other has a lower one than before
pub record AreNoted (tasks round : ℕ) (old : List ℕ) (rows : List Row) (new : List ℕ) : Type 0 where
  pub many : length new ≡ length old
  pub least : (i n : ℕ) → n < round → n < slice_index old i → n < slice_index new i
  pub each : (q : ℕ) (r : Row) (task : TaskId) → slice_get rows q ≡ Some r → r.leaf ≡ Task task → round ≤ slice_index new (q * tasks + task.0)

-- this is the row of processor q in round k, with the ticks of its task's rows in the rounds before it
pub record IsPending (rows : List (List Row)) (q k : ℕ) (next : PendingRow) : Type 0 where
  pub row : RowAt rows q k next.row
  pub before : (task : TaskId) → next.row.leaf ≡ Task task → next.before ≡ ticks_before task.0 k rows

-- these are the rows of rounds k up to n on m processors, round by round
pub record ArePending (rows : List (List Row)) (m k n : ℕ) (items : List PendingRow) : Type 0 where
  pub many : length items ≡ (n - k) * m
  pub each : (i q : ℕ) (next : PendingRow) → q < m → slice_get items (i * m + q) ≡ Some next → IsPending rows q (k + i) next

-- the rounds of a plan before tick n, and how many are left
abbrev pub rounds_up_to : PlanContents → ℕ → Table
rounds_up_to p n = record { lanes = lanes_of p.tree.processors (rows_before p n); room = rounds_of p - rounds_before p n }

-- all rounds up to the tick at which the next one begins
abbrev pub all_computed : PlanContents → PendingContents → RoundsContents
all_computed p r = record {
  core = r.source.core;
  tick = r.source.tick;
  again = recurrence p r.source.stage;
  width = r.width;
  table = rounds_up_to p r.source.tick;
}

-- what a book keeps of its pending rows: all from the least posted count up to the last computed round, with a place for each row of a window
pub record PendingKept (p : PlanContents) (window : ℕ) (s : State) (r : PendingContents) : Type 0 where
  pub kept : RowsKept p window s (all_computed p r)
  pub source : GoesOnWithPlan p r.source
  pub computed : r.computed ≡ rounds_before p r.source.tick
  pub counted : r.computed < 2 ^ 64
  pub rows : ArePending (plan_rows p) p.tree.processors (least_posted s) r.computed r.held.items
  pub places : r.held.capacity ≡ window * p.tree.processors
  pub tasks : length r.given ≡ length p.set.tasks
  pub given : (t : ℕ) → t < length p.set.tasks → slice_index r.given t ≡ ticks_before t r.computed (plan_rows p)
  pub last_places : length r.last ≡ p.tree.processors * length p.set.tasks
  pub last : (q j : ℕ) (row : Row) → j < r.computed → RowAt (plan_rows p) q j row → j < last_of r.last (length r.given) r.computed q row.leaf
