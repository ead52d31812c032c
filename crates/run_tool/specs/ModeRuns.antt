-- What `modes` does with the gates and the jobs, what it writes then, and why it stops.
use Rattle.std.specs.Prelude.{ℕ, ◌≡◌, ◌⊎◌, nat_lt, if◌then◌else◌, List, [], ◌∷◌, Option, Some, length, slice_get, take, codes}
use Rattle.std.specs.List.{AllByRecursion}
use Rattle.sched_base.specs.declared.rows.Leaf.TheVariants.{Task as OfTask}
use Rattle.sched_base.specs.declared.rows.TaskId.{TaskId}
use Rattle.sched_base.specs.Tables.{all_rows}
use Rattle.sched_base.specs.Valid.{IsValid}
use Rattle.sched_edges.specs.Gates.{grown}
use Rattle.sched_edges.specs.Jobs.{reloaded}
use Rattle.sched_edges.specs.Streams.{GaveAll}
use Rattle.run_tree.specs.Plans.{PlanContents, stop_of}
use Rattle.plan_rounds.specs.PlanRows.{plan_rows}
use Rattle.mode_join.specs.declared.mode.Mode.{Mode}
use Rattle.mode_join.specs.Modes.{ModesContents}
use Rattle.mode_switch.specs.Runs.{rows_through, used_after}
use Rattle.pure_commands.specs.declared.mode_refusal.ModeRefusal.{ModeRefusal}
use Rattle.pure_commands.specs.declared.mode_refusal.ModeRefusal.TheVariants as mode
use Rattle.pure_commands.specs.declared.refusal.Refusal.{Refusal}
use Rattle.pure_commands.specs.declared.refusal.Refusal.TheVariants as why
use Rattle.exit_status.specs.declared.Status.{Status}
use Rattle.exit_status.specs.declared.Status.TheVariants.{Done}
use Rattle.pure_commands.specs.Commands.{set_limit}
use Rattle.pure_commands.specs.Ends.{Streams}
use Rattle.run_tool.specs.Executions.{GateSeen, JobSeen, Crew, Holds, loaded_crew, GateStopped, JobStopped, GateRose, JobRose, name_at, usual_window}
use Rattle.pure_commands.specs.Numbered.{several}
use Rattle.run_tool.specs.ModeTexts.{ReadsModes, RefusesModes, mode_part}

-- what a job is made of after the modes: of the empty program, in units of one tick, where one has its task
abbrev pub made_after : List Mode → ℕ → Option (ℕ × List ℕ) → Option (ℕ × List ℕ)
made_after [] i made = made
made_after (m ∷ modes) i made = made_after modes i (if nat_lt i (length m.plan.set.tasks) then reloaded made 1 [] else made)

-- modes were run whole, one after the other: each gate ran its processor's rows of them, and each job has worked the ticks of its
-- task in the last mode that has one, without a program. Nothing failed
pub record RanThrough (modes : List Mode) (old new : Crew) : Type 0 where
  pub gates : (q : ℕ) (g : GateSeen) → Holds old.gates q g → Holds new.gates q (record { ran = grown g.ran (rows_through modes q); faults = g.faults })
  pub jobs : (i : ℕ) (j : JobSeen) → Holds old.jobs i j
      → (k : JobSeen) × Holds new.jobs i k × (k.id ≡ j.id) × (k.used ≡ used_after modes i j.used) × (k.faults ≡ j.faults)
      × (k.made ≡ made_after modes i j.made)
  pub valid : AllByRecursion (λ m. IsValid m.plan.set m.plan.tree.scale (stop_of m.plan) (stop_of m.plan) (all_rows (plan_rows m.plan))) modes

-- why the rows of a plan weren't all run, within the usual window
abbrev pub StopsInPlan : PlanContents → Crew → Crew → ModeRefusal → Type 0
StopsInPlan p old new (mode.GateFault row name) = GateStopped p usual_window old new row × (name ≡ name_at p.set.tasks row.leaf)
StopsInPlan p old new (mode.JobFault row name) = JobStopped p usual_window old new row × (name ≡ name_at p.set.tasks row.leaf)
StopsInPlan p old new _ = ⊥

-- the gate or the job that is named failed
abbrev pub NamedRose : Crew → Crew → ModeRefusal → Type 0
NamedRose old new (mode.GateFault row name) = GateRose old new row.processor
NamedRose old new (mode.JobFault row name) = (task : TaskId) × (row.leaf ≡ OfTask task) × JobRose old new task.0
NamedRose old new _ = ⊥

-- the modes before mode j were run whole, the jobs of its tasks began anew, it stopped, and none after it was begun. So each gate's
-- list grew by first rows of its processor's, mode after mode
pub record StopsInMode (modes : List Mode) (j : ℕ) (old new : Crew) (refusal : ModeRefusal) : Type 0 where
  pub mode : Mode
  pub at : slice_get modes j ≡ Some mode
  pub between : Crew
  pub before : RanThrough (take j modes) old between
  pub stopped : StopsInPlan mode.plan (loaded_crew [] 1 mode.plan.set.tasks between) new refusal
  pub rose : NamedRose old new refusal

-- some of the modes were run whole, and the jobs of the next one's tasks began anew
pub record StopsBetween (modes : List Mode) (old new : Crew) : Type 0 where
  pub number : ℕ
  pub mode : Mode
  pub at : slice_get modes number ≡ Some mode
  pub between : Crew
  pub before : RanThrough (take number modes) old between
  pub begun : new ≡ loaded_crew [] 1 mode.plan.set.tasks between

-- why modes weren't all run. Where memory was refused, nothing was begun, or it was between two modes
abbrev pub StopsInModes : List Mode → Crew → Crew → Refusal → Type 0
StopsInModes modes old new (why.OfMode j refusal) = StopsInMode modes j old new refusal
StopsInModes modes old new why.NoMemory = (new ≡ old) ⊎ StopsBetween modes old new
StopsInModes modes old new _ = ⊥

-- this text is written for these bytes once the gates and the jobs have run the whole schedules of their modes
abbrev pub WritesModesRun : Crew → Crew → List ℕ → Status → List ℕ → Type 0
WritesModesRun old new bytes status text =
    (status ≡ Done) × ((m : ModesContents) × ReadsModes bytes m × (text ≡ several (codes "run-modes") (codes "modes") mode_part m.modes)
    × RanThrough m.modes old new)

-- why no text is written for these bytes: a gate or a job failed in a mode, or they are refused
abbrev pub RefusesModesRun : Crew → Crew → List ℕ → Refusal → Type 0
RefusesModesRun old new bytes (why.OfMode j (mode.GateFault row name)) =
    (m : ModesContents) × ReadsModes bytes m × StopsInMode m.modes j old new (mode.GateFault row name)
RefusesModesRun old new bytes (why.OfMode j (mode.JobFault row name)) =
    (m : ModesContents) × ReadsModes bytes m × StopsInMode m.modes j old new (mode.JobFault row name)
RefusesModesRun old new bytes refusal = RefusesModes bytes refusal

-- where memory was refused, nothing was begun, or some of the modes were run whole
abbrev pub MayHaveRun : Streams → Streams → Crew → Crew → Refusal → Type 0
MayHaveRun old new before now why.NoMemory =
    (now ≡ before) ⊎ ((bytes : List ℕ) × (m : ModesContents) × GaveAll old.left new.left set_limit bytes × ReadsModes bytes m
    × StopsBetween m.modes before now)
MayHaveRun old new before now _ = Unit {0}
