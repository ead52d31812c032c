-- What the calls that take the lock promise of what they hand out, whatever book they find.
use Rattle.std.specs.Prelude.{ℕ, ◌≡◌, ◌<◌, ◌+◌, ◌-◌, List, Option, Some, None, slice_index, slice_index_or}
use Rattle.sched_base.specs.declared.rows.Leaf.{Leaf}
use Rattle.sched_base.specs.declared.rows.Leaf.TheVariants.{Task}
use Rattle.sched_base.specs.declared.rows.TaskId.{TaskId}
use Rattle.sched_base.specs.declared.rows.Row.{Row}
use Rattle.sched_base.specs.Tables.{RowAt, ticks_before}
use Rattle.run_tree.specs.Plans.{PlanContents, rounds_of}
use Rattle.unit_ledger.specs.Seats.{Seat}
use Rattle.exec_book.specs.declared.looks.Look.{Look}
use Rattle.exec_book.specs.declared.looks.Look.TheVariants.{Ready, NotYet, Done, Halted}
use Rattle.exec_book.specs.declared.looks.Next.{Next}
use Rattle.exec_book.specs.declared.looks.Next.TheVariants as next
use Rattle.plan_rounds.specs.PlanRows.{plan_rows}
use Rattle.exec_book.specs.Jobs.{Made, IsJobOf}

-- the job that goes with a row of this leaf was made of what the ledger's list says
abbrev pub Agrees : {J : Type 0} → (J → Made) → List Made → Leaf → Option J → Type 0
Agrees {J} made all_made leaf o = (task : TaskId) (job : J) → leaf ≡ Task task → o ≡ Some job → made job ≡ slice_index_or all_made task.0 None

-- the job that goes with a row of this leaf has failed as often as is given for its task
abbrev pub FailedAsGiven : {J : Type 0} → (J → ℕ) → List ℕ → Leaf → Option J → Type 0
FailedAsGiven {J} faults counts leaf o = (task : TaskId) (job : J) → leaf ≡ Task task → o ≡ Some job → faults job ≡ slice_index counts task.0

-- the row is the next one of the seat's lane, and the job its task's, which has used the ticks of the task's rows in earlier
-- rounds
pub record IsNext {J : Type 0} (id used : J → ℕ) (made : J → Made) (faults : J → ℕ) (all_made : List Made) (p : PlanContents) (seat : Seat)
    (counts : List ℕ) (row : Row) (job : Option J) : Type 0 where
  pub at : RowAt (plan_rows p) seat.lane seat.posted row
  pub own : IsJobOf id used made all_made (λ t. ticks_before t seat.posted (plan_rows p)) row.leaf job
  pub as_given : FailedAsGiven faults counts row.leaf job

-- the next row of the seat's lane, and the job its task's, of whose count of faults nothing is said
pub record IsNextRow {J : Type 0} (id used : J → ℕ) (made : J → Made) (all_made : List Made) (p : PlanContents) (seat : Seat) (row : Row)
    (job : Option J) : Type 0 where
  pub at : RowAt (plan_rows p) seat.lane seat.posted row
  pub own : IsJobOf id used made all_made (λ t. ticks_before t seat.posted (plan_rows p)) row.leaf job

-- the row is the next one of the seat's lane, and the job its task's, which has worked the row's ticks besides those of earlier rounds
pub record HasWorked {J : Type 0} (id used : J → ℕ) (made : J → Made) (all_made : List Made) (p : PlanContents) (seat : Seat) (row : Row)
    (job : Option J) : Type 0 where
  pub at : RowAt (plan_rows p) seat.lane seat.posted row
  pub own : IsJobOf id used made all_made (λ t. ticks_before t seat.posted (plan_rows p) + (row.end - row.start)) row.leaf job

-- what a worker gets at its seat, where nothing is said of the job's count of faults
abbrev pub GivesRow : {J : Type 0} → (J → ℕ) → (J → ℕ) → (J → Made) → List Made → PlanContents → Seat → Next J → Type 0
GivesRow id used made all_made p seat (next.Ready row job) = IsNextRow id used made all_made p seat row job
GivesRow id used made all_made p seat next.Waits = Unit {0}
GivesRow id used made all_made p seat next.Done = seat.posted ≡ rounds_of p
GivesRow id used made all_made p seat next.Halted = Unit {0}

-- what a look at a seat gives; a lane that is waited for is one of the plan's
abbrev pub TakeGives : {J : Type 0} → (J → ℕ) → (J → ℕ) → (J → Made) → (J → ℕ) → List Made → PlanContents → Seat → List ℕ →
    Look J → Type 0
TakeGives id used made faults all_made p seat counts (Ready row job) = IsNext id used made faults all_made p seat counts row job
TakeGives id used made faults all_made p seat counts (NotYet lane posted) = (lane < p.tree.processors) × (posted < seat.posted)
TakeGives id used made faults all_made p seat counts Done = seat.posted ≡ rounds_of p
TakeGives id used made faults all_made p seat counts Halted = Unit {0}
