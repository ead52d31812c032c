-- What an execution does with the gates and the jobs.
use Rattle.std.specs.Prelude.{ℕ, ◌≡◌, ◌<◌, ◌≤◌, ◌+◌, List, [], Option, Some, None, IfSome, option_map, length, map, slice_get}
use Rattle.std.specs.Prelude.{slice_index, take, Vec}
use Rattle.sched_base.specs.Limits.{processor_limit, task_limit}
use Rattle.sched_base.specs.declared.rows.Leaf.{Leaf}
use Rattle.sched_base.specs.declared.rows.Leaf.TheVariants as leaf
use Rattle.sched_base.specs.declared.rows.TaskId.{TaskId}
use Rattle.sched_base.specs.declared.rows.Row.{Row}
use Rattle.sched_base.specs.declared.sets.Task.{Task}
use Rattle.sched_base.specs.Sets.{task_at}
use Rattle.sched_base.specs.Tables.{all_rows, lane_of, RowAt, ticks_in, ticks_of}
use Rattle.sched_base.specs.Valid.{IsValid}
use Rattle.sched_edges.specs.Causes.{Rose}
use Rattle.sched_edges.specs.declared.gates.Gate.{Ghosts as GateTells}
use Rattle.sched_edges.specs.declared.jobs.Job.{Ghosts as JobTells}
use Rattle.sched_edges.specs.Gates.{grown}
use Rattle.sched_edges.specs.Jobs.{JobPlaces}
-- a place holds this: a job, or what a kit shows of its gate
pub use Rattle.sched_edges.specs.Jobs.{JobAt as Holds}
pub use Rattle.job_vm.specs.Seen.{JobSeen, jobs_of}
use Rattle.job_vm.specs.Programs.{Program}
use Rattle.job_vm.specs.Loading.{loaded}
use Rattle.run_tree.specs.Plans.{PlanContents, stop_of}
use Rattle.plan_rounds.specs.PlanRows.{plan_rows}
use Rattle.exec_lanes.specs.declared.kits.Kit.{Kit}
use Rattle.exec_workers.specs.Fronts.{IsFrontAt, IsDue, least_count}

-- what contracts see of a gate: the rows that it ran, where it tells them, and how often it has failed
pub record GateSeen : Type 0 where
  pub ran : Option (List Row)
  pub faults : ℕ

-- the gates in their kits and the jobs in their places, at one moment
pub record Crew : Type 0 where
  pub gates : List (Option GateSeen)
  pub jobs : List (Option JobSeen)

-- what the gates in these kits tell
abbrev pub gates_of : {G : Type 0} → (G → Option (List Row)) → (G → ℕ) → List (Kit G) → List (Option GateSeen)
gates_of ran faults kits = map (λ kit. option_map (λ gate. record { ran = ran gate; faults = faults gate }) kit.gate) kits

-- what the gates and the jobs tell
abbrev pub crew_of : {G J A : Type 0} → GateTells G → JobTells J → Vec (Kit G) A → JobPlaces J → Crew
crew_of gate job kits jobs = record {
  gates = gates_of gate.ran gate.faults kits.items;
  jobs = jobs_of job.id job.used job.faults job.made jobs.places;
}

-- the gates and the jobs, once these programs are loaded into the jobs of these tasks
abbrev pub loaded_crew : List Program → ℕ → List Task → Crew → Crew
loaded_crew programs scale tasks c = record c { jobs = loaded scale programs tasks c.jobs }

-- there is a gate for each processor that a set may have, which has run nothing yet where it tells its rows, and a job for each task
-- that it may have, which has worked no tick
pub record IsFreshCrew (c : Crew) : Type 0 where
  pub gates : (p : ℕ) → p < processor_limit → (g : GateSeen) × Holds c.gates p g × IfSome g.ran (λ rows. rows ≡ [])
  pub count : length c.jobs ≡ task_limit
  pub jobs : (i : ℕ) → i < task_limit → (j : JobSeen) × Holds c.jobs i j × (j.id ≡ i) × (j.used ≡ 0)

-- each kit that held a gate holds it again, and each job is in its place. No count of faults fell
pub record AreBack (old new : Crew) : Type 0 where
  pub gates : (p : ℕ) (g : GateSeen) → Holds old.gates p g → (h : GateSeen) × Holds new.gates p h × (g.faults ≤ h.faults)
  pub jobs : (i : ℕ) (j : JobSeen) → Holds old.jobs i j → (k : JobSeen) × Holds new.jobs i k × (k.id ≡ j.id) × (j.faults ≤ k.faults)

-- each gate ran all rows of its processor in their order, which are a valid schedule, and each job has worked the ticks of its
-- task's rows, with the program that it had. Nothing failed
pub record RanAll (p : PlanContents) (old new : Crew) : Type 0 where
  pub gates : (q : ℕ) (g : GateSeen) → Holds old.gates q g → Holds new.gates q (record { ran = grown g.ran (lane_of (plan_rows p) q); faults = g.faults })
  pub jobs : (i : ℕ) (j : JobSeen) → Holds old.jobs i j
      → Holds new.jobs i (record j { used = j.used + ticks_in i (all_rows (plan_rows p)) })
  pub valid : IsValid p.set p.tree.scale (stop_of p) (stop_of p) (all_rows (plan_rows p))

-- what processor q shows in its next row after so many
abbrev pub next_leaf : PlanContents → List ℕ → ℕ → Option Leaf
next_leaf p counts q = option_map (λ row. row.leaf) (slice_get (lane_of (plan_rows p) q) (slice_index counts q))

-- job i failed
abbrev pub JobRose : Crew → Crew → ℕ → Type 0
JobRose old new i = (j k : JobSeen) × Holds old.jobs i j × Holds new.jobs i k × Rose j.faults k.faults

-- what is shown is a task, whose job failed
abbrev pub ShowsFailed : Crew → Crew → Option Leaf → Type 0
ShowsFailed old new (Some (leaf.Task task)) = JobRose old new task.0
ShowsFailed old new _ = ⊥

-- each gate ran the first rows of its processor, as many as `ran` says. As many of them as `posted` says are posted, all but one
-- at most: the one at which its task's job failed, and no other job failed. Each job has worked the ticks of its task's posted rows,
-- which are the first of the task, with the program that it had. No gate ran a row past the window, and those that the plan has no
-- processor for are as they were
pub record RanPart (p : PlanContents) (window : ℕ) (old new : Crew) (posted ran : List ℕ) : Type 0 where
  pub width : length posted ≡ p.tree.processors
  pub beside : (q : ℕ) → (slice_index posted q ≤ slice_index ran q) × (slice_index ran q ≤ slice_index posted q + 1)
  pub gates : (q : ℕ) (g : GateSeen) → Holds old.gates q g
      → (h : GateSeen) × Holds new.gates q h × (h.ran ≡ grown g.ran (take (slice_index ran q) (lane_of (plan_rows p) q)))
  pub jobs : (i : ℕ) (j : JobSeen) → Holds old.jobs i j
      → (k : JobSeen) × Holds new.jobs i k × (k.used ≡ j.used + ticks_of i (plan_rows p) posted) × (k.made ≡ j.made)
  pub failed : (q : ℕ) → slice_index posted q < slice_index ran q → ShowsFailed old new (next_leaf p posted q)
  pub kept : (i : ℕ) → ((q : ℕ) → slice_index posted q < slice_index ran q → next_leaf p posted q ≡ Some (leaf.Task (record { 0 = i })) → ⊥)
      → (j k : JobSeen) → Holds old.jobs i j → Holds new.jobs i k → k.faults ≡ j.faults
  pub front : IsFrontAt p posted
  pub within : (q : ℕ) → slice_index ran q ≤ least_count posted + window
  pub others : (q : ℕ) → p.tree.processors ≤ q → slice_get new.gates q ≡ slice_get old.gates q

-- the gate of processor q failed
abbrev pub GateRose : Crew → Crew → ℕ → Type 0
GateRose old new q = (g h : GateSeen) × Holds old.gates q g × Holds new.gates q h × Rose g.faults h.faults

-- the gate of processor q didn't fail
abbrev pub GateKept : Crew → Crew → ℕ → Type 0
GateKept old new q = (g h : GateSeen) → Holds old.gates q g → Holds new.gates q h → h.faults ≡ g.faults

-- the gate of the row's processor failed at this row, the next after those that it ran, which could be taken, and none of a lower
-- processor failed
pub record GateStopped (p : PlanContents) (window : ℕ) (old new : Crew) (row : Row) : Type 0 where
  pub rose : GateRose old new row.processor
  pub lowest : (q : ℕ) → q < row.processor → GateKept old new q
  pub at : (posted ran : List ℕ) × RanPart p window old new posted ran × RowAt (plan_rows p) row.processor (slice_index ran row.processor) row
      × (slice_index posted row.processor ≡ slice_index ran row.processor) × IsDue (plan_rows p) window posted row.processor

-- no gate failed. The job of the row's task failed at this row, the last one that the gate of the row's processor ran, and the first
-- of the task that isn't posted. On each lower processor all that ran is posted, so no job failed there
pub record JobStopped (p : PlanContents) (window : ℕ) (old new : Crew) (row : Row) : Type 0 where
  pub task : (task : TaskId) × (row.leaf ≡ leaf.Task task) × JobRose old new task.0
  pub gates : (q : ℕ) → GateKept old new q
  pub at : (posted ran : List ℕ) × RanPart p window old new posted ran × RowAt (plan_rows p) row.processor (slice_index posted row.processor) row
      × (slice_index ran row.processor ≡ slice_index posted row.processor + 1)
      × ((q : ℕ) → q < row.processor → slice_index ran q ≡ slice_index posted q) × IsDue (plan_rows p) window posted row.processor

-- how many rounds a lane may run ahead where no window is asked for
abbrev pub usual_window : ℕ
usual_window = 32

-- no gate and no job failed
pub record NothingRose (old new : Crew) : Type 0 where
  pub gates : (q : ℕ) → ¬ (GateRose old new q)
  pub jobs : (i : ℕ) → ¬ (JobRose old new i)

-- the name of the task that a leaf runs, if it runs one
abbrev pub name_at : List Task → Leaf → Option (List ℕ)
name_at tasks (leaf.Task task) = Some (task_at tasks task.0).name
name_at tasks (leaf.Wait task) = None
name_at tasks (leaf.Idle number) = None
name_at tasks leaf.Empty = None
