-- How the lanes of a run ended.
use Rattle.std.specs.Prelude.{ℕ, ◌≡◌, ◌<◌, ◌≤◌, List, Some, length, map, slice_index}
use Rattle.sched_base.specs.declared.rows.Leaf.TheVariants.{Task}
use Rattle.sched_base.specs.declared.rows.Row.{Row}
use Rattle.exec_lanes.specs.declared.causes.Cause.TheVariants as cause
use Rattle.exec_lanes.specs.declared.answers.ExecFault.{ExecFault}
use Rattle.exec_lanes.specs.declared.answers.ExecFault.TheVariants as fault
use Rattle.exec_lanes.specs.declared.answers.FirstFault.{FirstFault}
use Rattle.exec_lanes.specs.declared.answers.FirstFault.TheVariants as first
use Rattle.exec_lanes.specs.Lanes.{LaneContents, HasRisen, JobRose, lane_in}

-- how many rows each lane has posted
abbrev pub posted_by : List LaneContents → List ℕ
posted_by lanes = map (λ lane. lane.seat.posted) lanes

-- lane p's gate failed at this row
abbrev pub GateFailed : List LaneContents → ℕ → Row → Type 0
GateFailed lanes p r = (p < length lanes) × ((lane_in lanes p).cause ≡ Some (cause.Gate r))

-- on lane p the job of this task failed at this row, and tells this count of faults since
pub record JobFailed (lanes : List LaneContents) (p t : ℕ) (r : Row) (faults : ℕ) : Type 0 where
  pub lane : p < length lanes
  pub cause : (lane_in lanes p).cause ≡ Some (cause.Job r faults)
  pub of_task : r.leaf ≡ Task (record { 0 = t })

-- no gate of the lanes before lane p failed
abbrev pub NoGateBefore : List LaneContents → ℕ → Type 0
NoGateBefore lanes p = (q : ℕ) (r : Row) → q < p → GateFailed lanes q r → ⊥

-- on no lane before lane p a job failed
abbrev pub NoJobBefore : List LaneContents → ℕ → Type 0
NoJobBefore lanes p = (q t : ℕ) (r : Row) (faults : ℕ) → q < p → JobFailed lanes q t r faults → ⊥

-- a failure is a gate's on the lowest lane with one, or else a job's on the lowest lane with one
abbrev pub NamesLowest : List LaneContents → FirstFault → Type 0
NamesLowest lanes (first.Gate processor row) = GateFailed lanes processor row × NoGateBefore lanes processor
NamesLowest lanes (first.Job task processor row) =
    NoGateBefore lanes (length lanes) × ((faults : ℕ) × JobFailed lanes processor task row faults) × NoJobBefore lanes processor

-- the answer that names a failure, with the number of posted rows
abbrev pub fault_with : FirstFault → ℕ → ExecFault
fault_with (first.Gate processor row) posts = fault.Gate processor row posts
fault_with (first.Job task processor row) posts = fault.Job task processor row posts

-- a job that failed on some lane had a count of faults that rose from the given one
abbrev pub JobsRose : List ℕ → List LaneContents → Type 0
JobsRose counts lanes = (p : ℕ) (r : Row) (faults : ℕ) → p < length lanes → (lane_in lanes p).cause ≡ Some (cause.Job r faults) →
    JobRose counts r faults

-- the counts of the jobs that failed on the first k lanes are those that they tell since, and the others are as before
pub record KeepsCounts (lanes : List LaneContents) (k : ℕ) (before now : List ℕ) : Type 0 where
  pub later : (t : ℕ) → slice_index before t ≤ slice_index now t
  pub risen : (p t : ℕ) (r : Row) (faults : ℕ) → p < k → JobFailed lanes p t r faults → HasRisen (slice_index before t) (slice_index now t)
  pub same : (t : ℕ) → ((p : ℕ) (r : Row) (faults : ℕ) → p < k → JobFailed lanes p t r faults → ⊥) →
      slice_index now t ≡ slice_index before t
