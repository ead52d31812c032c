-- What a run of modes does to the gates and to the jobs, and what it answers.
use Rattle.std.specs.Prelude.{ℕ, ◌≡◌, ◌<◌, ◌≤◌, ◌⊎◌, nat_lt, if◌then◌else◌, List, [], ◌∷◌, ◌++◌, Option, Some, Result, Ok, Err, length, slice_get, take, Vec}
use Rattle.sched_base.specs.declared.sets.Task.{Task}
use Rattle.sched_base.specs.declared.rows.Row.{Row}
use Rattle.sched_base.specs.Tables.{all_rows, lane_of, ticks_in}
use Rattle.sched_base.specs.Valid.{IsValid}
use Rattle.sched_edges.specs.declared.gates.Gate.{Ghosts as GateTells}
use Rattle.sched_edges.specs.declared.jobs.Job.{Ghosts as JobTells}
use Rattle.sched_edges.specs.Gates.{grown}
use Rattle.sched_edges.specs.Jobs.{JobAt, JobPlaces}
use Rattle.job_vm.specs.Seen.{seen}
use Rattle.job_vm.specs.Loading.{loaded}
use Rattle.run_tree.specs.Plans.{PlanContents, stop_of}
use Rattle.row_totals.specs.Sums.{totals_of}
use Rattle.plan_rounds.specs.PlanRows.{plan_rows}
use Rattle.exec_lanes.specs.declared.answers.Executed.{Executed}
use Rattle.exec_lanes.specs.declared.answers.ExecFault.{ExecFault}
use Rattle.exec_lanes.specs.declared.answers.ExecFault.TheVariants as exec
use Rattle.exec_lanes.specs.declared.kits.Kit.{Kit}
use Rattle.exec_lanes.specs.Kits.{KitAt}
use Rattle.exec_lanes.specs.Lanes.{HasRisen}
use Rattle.exec_workers.specs.Runs.{Outcome}
use Rattle.mode_join.specs.declared.mode.Mode.{Mode}
use Rattle.mode_switch.specs.declared.answers.ModesFault.{ModesFault}
use Rattle.mode_switch.specs.declared.answers.ModesFault.TheVariants as fault

-- the gates in their kits and the jobs in their places, at one moment
pub record CrewHeld (G J : Type 0) : Type 0 where
  pub kits : List (Kit G)
  pub places : List (Option J)

-- the gates in these kits and the jobs in these places
abbrev pub crew_held : {G J A : Type 0} → Vec (Kit G) A → JobPlaces J → CrewHeld G J
crew_held kits jobs = record { kits = kits.items; places = jobs.places }

-- each of the first n places holds the job of its own number
abbrev pub HaveOwnJobs : {J : Type 0} → (J → ℕ) → ℕ → List (Option J) → Type 0
HaveOwnJobs {J} id n places = (t : ℕ) → t < n → (job : J) × JobAt places t job × (id job ≡ t)

-- the job of each of these tasks began anew with the empty program, in units of one tick, and all else is as it was
pub record HasBegun {G J : Type 0} (tells : JobTells J) (tasks : List Task) (old new : CrewHeld G J) : Type 0 where
  pub gates : new.kits ≡ old.kits
  pub jobs : seen tells new.places ≡ loaded 1 [] tasks (seen tells old.places)

-- a mode of this plan was run within this window, with this answer: the jobs of its tasks began anew, and then its plan was executed
pub record RanMode {G J : Type 0} (gate : GateTells G) (job : JobTells J) (p : PlanContents) (window : ℕ) (answer : Result Executed ExecFault)
    (old new : CrewHeld G J) : Type 0 where
  pub begun : CrewHeld G J
  pub begins : HasBegun job p.set.tasks old begun
  pub outcome : Outcome gate.ran gate.faults job.id job.used job.made job.faults p window begun.kits new.kits begun.places new.places answer

-- modes were run whole, one after the other, each within this window, with these answers
abbrev pub RanModes : {G J : Type 0} → GateTells G → JobTells J → List Mode → ℕ → List Executed → CrewHeld G J → CrewHeld G J → Type 0
RanModes gate job [] window [] old new = new ≡ old
RanModes gate job [] window (e ∷ runs) old new = ⊥
RanModes gate job (m ∷ modes) window [] old new = ⊥
RanModes {G} {J} gate job (m ∷ modes) window (e ∷ runs) old new =
    (between : CrewHeld G J) × RanMode gate job m.plan window (Ok e) old between × RanModes gate job modes window runs between new

-- the modes before mode j were run whole, mode j was run with this fault, and none after it was begun
pub record StopsIn {G J : Type 0} (gate : GateTells G) (job : JobTells J) (modes : List Mode) (window j : ℕ) (why : ExecFault)
    (old new : CrewHeld G J) : Type 0 where
  pub mode : Mode
  pub at : slice_get modes j ≡ Some mode
  pub runs : List Executed
  pub between : CrewHeld G J
  pub whole : RanModes gate job (take j modes) window runs old between
  pub stopped : RanMode gate job mode.plan window (Err why) between new

-- what a run of modes within this window does, with what it answers. Where memory was refused, nothing was begun, or in some mode
-- the jobs of its tasks alone
abbrev pub ModesOutcome : {G J : Type 0} → GateTells G → JobTells J → List Mode → ℕ → CrewHeld G J → CrewHeld G J
    → Result (List Executed) ModesFault → Type 0
ModesOutcome gate job modes window old new (Ok runs) = RanModes gate job modes window runs old new
ModesOutcome gate job modes window old new (Err (fault.Gate mode processor row)) =
    (posts : ℕ) × StopsIn gate job modes window mode (exec.Gate processor row posts) old new
ModesOutcome gate job modes window old new (Err (fault.Job mode task processor row)) =
    (posts : ℕ) × StopsIn gate job modes window mode (exec.Job task processor row posts) old new
ModesOutcome gate job modes window old new (Err fault.NoMemory) =
    (new ≡ old) ⊎ ((mode : ℕ) × StopsIn gate job modes window mode exec.NoMemory old new)

-- processor q's rows of the modes, one mode after the other
abbrev pub rows_through : List Mode → ℕ → List Row
rows_through [] q = []
rows_through (m ∷ modes) q = lane_of (plan_rows m.plan) q ++ rows_through modes q

-- each gate's list grew by exactly its processor's rows of the modes
abbrev pub GatesGrewThrough : {G : Type 0} → (G → Option (List Row)) → ℕ → List Mode → List (Kit G) → List (Kit G) → Type 0
GatesGrewThrough {G} ran processors modes kits kits' = (q : ℕ) (gate : G) → q < processors → KitAt kits q gate →
    (now : G) × KitAt kits' q now × (ran now ≡ grown (ran gate) (rows_through modes q))

-- each gate's list grew by some of the first of its processor's rows of the modes
abbrev pub GatesGrewFirst : {G : Type 0} → (G → Option (List Row)) → ℕ → List Mode → List (Kit G) → List (Kit G) → Type 0
GatesGrewFirst {G} ran processors modes kits kits' = (q : ℕ) (gate : G) → q < processors → KitAt kits q gate →
    (now : G) × KitAt kits' q now × ((k : ℕ) × (ran now ≡ grown (ran gate) (take k (rows_through modes q))))

-- a mode was run whole: all rows of its plan, which are a valid schedule of its set over its whole horizon, and their ticks by task
pub record IsRunOf (m : Mode) (e : Executed) : Type 0 where
  pub table : e.table.lanes ≡ plan_rows m.plan
  pub totals : e.totals.ticks ≡ totals_of (length m.plan.set.tasks) (plan_rows m.plan)
  pub valid : IsValid m.plan.set m.plan.tree.scale (stop_of m.plan) (stop_of m.plan) (all_rows (plan_rows m.plan))

-- what job i, which had used so many ticks, has used after the modes: the ticks of its task in the last mode that has one
abbrev pub used_after : List Mode → ℕ → ℕ → ℕ
used_after [] i used = used
used_after (m ∷ modes) i used =
    used_after modes i (if nat_lt i (length m.plan.set.tasks) then ticks_in i (all_rows (plan_rows m.plan)) else used)

-- each job is in its place, and has used the ticks of its task in the last mode that has one
abbrev pub JobsUsedLast : {J : Type 0} → JobTells J → List Mode → List (Option J) → List (Option J) → Type 0
JobsUsedLast {J} tells modes places places' = (i : ℕ) (job : J) → JobAt places i job →
    (now : J) × JobAt places' i now × (tells.id now ≡ tells.id job) × (tells.used now ≡ used_after modes i (tells.used job))

-- each kit that held a gate holds it again, and each job is in its place. No count of faults fell
pub record AreBack {G J : Type 0} (gate : GateTells G) (job : JobTells J) (old new : CrewHeld G J) : Type 0 where
  pub gates : (q : ℕ) (g : G) → KitAt old.kits q g → (now : G) × KitAt new.kits q now × (gate.faults g ≤ gate.faults now)
  pub jobs : (i : ℕ) (j : J) → JobAt old.places i j → (now : J) × JobAt new.places i now × (job.id now ≡ job.id j) × (job.faults j ≤ job.faults now)

-- the count of faults of the gate or of the job that is named rose
abbrev pub NamesRisen : {G J : Type 0} → GateTells G → JobTells J → CrewHeld G J → CrewHeld G J → ModesFault → Type 0
NamesRisen {G} gate job old new (fault.Gate mode processor row) =
    (g h : G) → KitAt old.kits processor g → KitAt new.kits processor h → HasRisen (gate.faults g) (gate.faults h)
NamesRisen {G} {J} gate job old new (fault.Job mode task processor row) =
    (j k : J) → JobAt old.places task j → JobAt new.places task k → HasRisen (job.faults j) (job.faults k)
NamesRisen gate job old new fault.NoMemory = Unit {0}

-- the answer that names a fault of mode j
abbrev pub fault_in : ℕ → ExecFault → ModesFault
fault_in j (exec.Gate processor row posts) = fault.Gate j processor row
fault_in j (exec.Job task processor row posts) = fault.Job j task processor row
fault_in j exec.NoMemory = fault.NoMemory
