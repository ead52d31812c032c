-- What a contract sees of a lane, and what serving it does.
use Rattle.std.specs.Prelude.{ℕ, ◌≡◌, ◌<◌, ◌≤◌, List, [], ◌∷◌, ◌++◌, Option, Some, None, length, slice_index}
use Rattle.std.specs.Prelude.{slice_index_or, slice_range}
use Rattle.sched_base.specs.declared.rows.Leaf.TheVariants.{Task}
use Rattle.sched_base.specs.declared.rows.TaskId.{TaskId}
use Rattle.sched_base.specs.declared.rows.Row.{Row}
use Rattle.sched_base.specs.Tables.{lane_of, RowAt}
use Rattle.sched_edges.specs.Causes.{Rose}
use Rattle.sched_edges.specs.Gates.{grown}
use Rattle.unit_ledger.specs.Seats.{Seat}
use Rattle.exec_lanes.specs.declared.causes.Cause.{Cause}
use Rattle.exec_lanes.specs.declared.causes.Cause.TheVariants as cause

-- what contracts see of a lane: its gate, its seat, and why it stopped
pub record LaneContents : Type 0 where
  -- the rows that the gate ran, where it tells them, and how often the gate has failed
  pub ran : Option (List Row)
  pub faults : ℕ
  pub seat : Seat
  pub cause : Option Cause

-- stands where there is no such lane, and is never looked at
abbrev pub no_lane : LaneContents
no_lane = record { ran = None; faults = 0; seat = record { lane = 0; posted = 0 }; cause = None }

-- lane p
abbrev pub lane_in : List LaneContents → ℕ → LaneContents
lane_in lanes p = slice_index_or lanes p no_lane

-- the count rose
pub record HasRisen (before now : ℕ) : Type 0 where
  pub later : before ≤ now
  pub rose : Rose before now

-- the row is one of a task, whose job's count of faults rose from the given one to this one
pub record JobRose (counts : List ℕ) (r : Row) (faults : ℕ) : Type 0 where
  pub task : TaskId
  pub of_task : r.leaf ≡ Task task
  pub given : task.0 < length counts
  pub risen : HasRisen (slice_index counts task.0) faults

-- the gate's count of faults rose where the gate failed, and else is as before; where a job failed, its count rose
abbrev pub IsCaused : Option Cause → ℕ → ℕ → List ℕ → Type 0
IsCaused None before now counts = now ≡ before
IsCaused (Some (cause.Gate r)) before now counts = HasRisen before now
IsCaused (Some (cause.Job r faults)) before now counts = (now ≡ before) × JobRose counts r faults

-- a failed row is the next one of its lane
abbrev pub FailsNext : List (List Row) → Seat → Option Cause → Type 0
FailsNext rows seat None = Unit {0}
FailsNext rows seat (Some (cause.Gate r)) = RowAt rows seat.lane seat.posted r
FailsNext rows seat (Some (cause.Job r faults)) = RowAt rows seat.lane seat.posted r

-- a job fails at a row of a task alone
abbrev pub IsOfTask : Option Cause → Type 0
IsOfTask None = Unit {0}
IsOfTask (Some (cause.Gate r)) = Unit {0}
IsOfTask (Some (cause.Job r faults)) = (task : TaskId) × (r.leaf ≡ Task task)

-- the row that the gate ran beside the posted ones: the one whose job failed
abbrev pub unposted : Option Cause → List Row
unposted None = []
unposted (Some (cause.Gate r)) = []
unposted (Some (cause.Job r faults)) = r ∷ []

-- a lane was served: its gate ran the lane's rows from the old count up to the new one, and the one whose job failed
pub record Served (rows : List (List Row)) (counts : List ℕ) (before now : LaneContents) : Type 0 where
  pub lane : now.seat.lane ≡ before.seat.lane
  pub count : before.seat.posted ≤ now.seat.posted
  pub ran : now.ran ≡ grown before.ran (slice_range (lane_of rows before.seat.lane) before.seat.posted now.seat.posted ++ unposted now.cause)
  pub caused : IsCaused now.cause before.faults now.faults counts
  pub next : FailsNext rows now.seat now.cause

-- each lane was served
abbrev pub AllServed : List (List Row) → List ℕ → List LaneContents → List LaneContents → Type 0
AllServed rows counts before now = (p : ℕ) → p < length before → Served rows counts (lane_in before p) (lane_in now p)

-- no lane has failed
abbrev pub NoneFailed : List LaneContents → Type 0
NoneFailed lanes = (p : ℕ) → p < length lanes → (lane_in lanes p).cause ≡ None

-- each lane has posted that many rows
abbrev pub AllAt : ℕ → List LaneContents → Type 0
AllAt rounds lanes = (p : ℕ) → p < length lanes → (lane_in lanes p).seat.posted ≡ rounds
