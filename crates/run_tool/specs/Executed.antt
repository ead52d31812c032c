-- What `exec` writes, and why it stops: with what the gates and the jobs did.
use Rattle.std.specs.Prelude.{ℕ, ◌≡◌, ◌⊎◌, Bool, true, false, List, take, Option, Some, Result, OnOk, IfErr}
use Rattle.std.specs.Io.KnownBytes.{Appends, Keeps}
use Rattle.sched_base.specs.Sets.{SetContents}
use Rattle.sched_base.specs.Scale.{IsScale}
use Rattle.sched_edges.specs.Causes.{Rose}
use Rattle.sched_edges.specs.Streams.{GaveAll, TookPart}
use Rattle.job_vm.specs.Programs.{JobTextHeld}
use Rattle.run_tool.specs.JobPrograms.{ReadsJobs, IsJobsToRun, result_text, RefusesJobs}
use Rattle.command_words.specs.declared.command.Command.{Command}
use Rattle.command_words.specs.declared.command.Command.TheVariants.{Read, Batch, Execute}
use Rattle.command_words.specs.declared.command.Execution.{Execution}
use Rattle.command_words.specs.declared.command.Execution.TheVariants.{Exec, ExecMet, Drill, Jobs, Modes}
use Rattle.pure_commands.specs.declared.refusal.Refusal.{Refusal}
use Rattle.pure_commands.specs.declared.refusal.Refusal.TheVariants as why
use Rattle.exit_status.specs.declared.Status.{Status}
use Rattle.exit_status.specs.declared.Status.TheVariants.{Done, WriteFault, NoMemory, GateFault, JobFault}
use Rattle.pure_commands.specs.Commands.{schedule_rows, of_batch, output_of, set_limit, HasRoom, text_of, plan_of, RefusesText}
use Rattle.pure_commands.specs.Refusals.{status_of, refusal_line}
use Rattle.run_tool.specs.Drill.{drilled, IsDrill, drill_text}
use Rattle.pure_commands.specs.Ends.{Streams, ErrorStream, IsUnread, IsQuiet, Tells, IsTold, StopsAs, Ends}
use Rattle.run_tree.specs.Plans.{PlanContents}
use Rattle.pure_commands.specs.Input.{IsSchedulable, IsRefusedSet, IsTooLongSet}
use Rattle.run_tool.specs.Executions.{Crew, AreBack, loaded_crew, RanAll, GateStopped, JobStopped, NothingRose, name_at, usual_window}
use Rattle.run_tool.specs.Commands.{IsToRun}
use Rattle.run_tool.specs.ModeRuns.{WritesModesRun, RefusesModesRun, MayHaveRun}

-- this text is written for these bytes once the gates and the jobs have run the whole schedule of their set
abbrev pub WritesRun : Bool → Crew → Crew → List ℕ → Status → List ℕ → Type 0
WritesRun met old new bytes status text =
    (status ≡ Done) × ((s : SetContents) × (scale : ℕ) × IsToRun met bytes s scale × (text ≡ text_of (schedule_rows met) s scale)
    × RanAll (plan_of s scale) old new)

-- why no text is written for these bytes: a gate or a job failed, or they are refused
abbrev pub RefusesRun : ℕ → Bool → Crew → Crew → List ℕ → Refusal → Type 0
RefusesRun window met old new bytes (why.GateFault row name) =
    (s : SetContents) × (scale : ℕ) × IsToRun met bytes s scale × GateStopped (plan_of s scale) window old new row × (name ≡ name_at s.tasks row.leaf)
RefusesRun window met old new bytes (why.JobFault row name) =
    (s : SetContents) × (scale : ℕ) × IsToRun met bytes s scale × JobStopped (plan_of s scale) window old new row × (name ≡ name_at s.tasks row.leaf)
RefusesRun window met old new bytes refusal = RefusesText (schedule_rows met) bytes refusal

-- a set's schedule was run, and its text written
abbrev pub RanSet : Bool → Option (List ℕ) → Option (List ℕ) → Crew → Crew → SetContents → Type 0
RanSet met out out' old new s =
    (scale : ℕ) × IsSchedulable s scale × HasRoom (schedule_rows met) s scale × Appends out out' (text_of (schedule_rows met) s scale)
    × RanAll (plan_of s scale) old new

-- why running a plan's schedule stopped
abbrev pub StopsInRun : PlanContents → ℕ → Crew → Crew → Refusal → Type 0
StopsInRun p window old new (why.GateFault row name) = GateStopped p window old new row × (name ≡ name_at p.set.tasks row.leaf)
StopsInRun p window old new (why.JobFault row name) = JobStopped p window old new row × (name ≡ name_at p.set.tasks row.leaf)
StopsInRun p window old new why.NoMemory = Unit {0}
StopsInRun p window old new _ = ⊥

-- why a set's schedule wasn't run, or its text not written
abbrev pub StopsAtRun : ℕ → Bool → Option (List ℕ) → Option (List ℕ) → ℕ → ℕ → Crew → Crew → SetContents → Refusal → Type 0
StopsAtRun window met out out' faults faults' old new s why.WriteFault =
    (scale : ℕ) × IsSchedulable s scale × HasRoom (schedule_rows met) s scale × TookPart out out' (text_of (schedule_rows met) s scale)
    × Rose faults faults' × RanAll (plan_of s scale) old new
StopsAtRun window met out out' faults faults' old new s (why.GateFault row name) =
    (scale : ℕ) × IsSchedulable s scale × HasRoom (schedule_rows met) s scale × StopsInRun (plan_of s scale) window old new (why.GateFault row name)
    × Keeps out out'
StopsAtRun window met out out' faults faults' old new s (why.JobFault row name) =
    (scale : ℕ) × IsSchedulable s scale × HasRoom (schedule_rows met) s scale × StopsInRun (plan_of s scale) window old new (why.JobFault row name)
    × Keeps out out'
StopsAtRun window met out out' faults faults' old new s (why.TooLong rows) = IsTooLongSet (schedule_rows met) s rows × Keeps out out'
StopsAtRun window met out out' faults faults' old new s refusal = IsRefusedSet s refusal × Keeps out out'

-- a drill's schedule was run, and its text written
abbrev pub RanDrill : ℕ → Option (List ℕ) → Option (List ℕ) → Crew → Crew → Type 0
RanDrill number out out' old new =
    (scale : ℕ) × IsDrill number scale × Appends out out' (drill_text number scale) × RanAll (plan_of (drilled number) scale) old new

-- why a drill's schedule wasn't run, or its text not written: `out` failed, a gate or a job did, or memory was refused, before anything
-- was called or once all was run
abbrev pub StopsAtDrill : ℕ → Option (List ℕ) → Option (List ℕ) → ℕ → ℕ → Crew → Crew → Refusal → Type 0
StopsAtDrill number out out' faults faults' old new why.WriteFault =
    (scale : ℕ) × IsDrill number scale × TookPart out out' (drill_text number scale) × Rose faults faults' × RanAll (plan_of (drilled number) scale) old new
StopsAtDrill number out out' faults faults' old new (why.GateFault row name) =
    ((scale : ℕ) × IsScale (drilled number).tasks scale × StopsInRun (plan_of (drilled number) scale) usual_window old new (why.GateFault row name))
    × Keeps out out'
StopsAtDrill number out out' faults faults' old new (why.JobFault row name) =
    ((scale : ℕ) × IsScale (drilled number).tasks scale × StopsInRun (plan_of (drilled number) scale) usual_window old new (why.JobFault row name))
    × Keeps out out'
StopsAtDrill number out out' faults faults' old new why.NoMemory =
    ((new ≡ old) ⊎ ((scale : ℕ) × IsScale (drilled number).tasks scale × RanAll (plan_of (drilled number) scale) old new)) × Keeps out out'
StopsAtDrill number out out' faults faults' old new _ = ⊥

-- the text of a drill that was run was written
abbrev pub WroteDrill : ℕ → ℕ → Option (List ℕ) → Option (List ℕ) → Type 0
WroteDrill number scale out out' = IsDrill number scale × Appends out out' (drill_text number scale)

-- why it wasn't, or not all of it
abbrev pub StopsAtText : ℕ → ℕ → Option (List ℕ) → Option (List ℕ) → ℕ → ℕ → Refusal → Type 0
StopsAtText number scale out out' faults faults' why.WriteFault = IsDrill number scale × TookPart out out' (drill_text number scale) × Rose faults faults'
StopsAtText number scale out out' faults faults' why.NoMemory = Keeps out out'
StopsAtText number scale out out' faults faults' _ = ⊥

-- ---- `jobs`

-- the programs of the first tasks, of none or of all, were loaded, and else nothing was done: no gate was called, and no job worked
abbrev pub HasLoaded : JobTextHeld → SetContents → Crew → Crew → Type 0
HasLoaded text s old new = (scale n : ℕ) × IsSchedulable s scale × (new ≡ loaded_crew text.programs scale (take n s.tasks) old)

-- what is told of these bytes is written once the gates and the jobs, with their programs, have run the whole schedule of their set
abbrev pub WritesJobsRun : Crew → Crew → List ℕ → Status → List ℕ → Type 0
WritesJobsRun old new bytes status result =
    (status ≡ Done) × ((text : JobTextHeld) × (s : SetContents) × (scale : ℕ) × IsJobsToRun bytes text s scale
    × (result ≡ result_text text (plan_of s scale) old.jobs) × RanAll (plan_of s scale) (loaded_crew text.programs scale s.tasks old) new)

-- why nothing is written for these bytes: a gate or a job failed, or they are refused
abbrev pub RefusesJobsRun : Crew → Crew → List ℕ → Refusal → Type 0
RefusesJobsRun old new bytes (why.GateFault row name) =
    (text : JobTextHeld) × (s : SetContents) × (scale : ℕ) × IsJobsToRun bytes text s scale
    × StopsInRun (plan_of s scale) usual_window (loaded_crew text.programs scale s.tasks old) new (why.GateFault row name)
RefusesJobsRun old new bytes (why.JobFault row name) =
    (text : JobTextHeld) × (s : SetContents) × (scale : ℕ) × IsJobsToRun bytes text s scale
    × StopsInRun (plan_of s scale) usual_window (loaded_crew text.programs scale s.tasks old) new (why.JobFault row name)
RefusesJobsRun old new bytes refusal = RefusesJobs bytes refusal

-- where memory was refused, nothing was begun, or some of the programs were loaded
abbrev pub MayHaveLoaded : Streams → Streams → Crew → Crew → Refusal → Type 0
MayHaveLoaded old new before now why.NoMemory =
    (now ≡ before) ⊎ ((bytes : List ℕ) × (text : JobTextHeld) × (s : SetContents) × GaveAll old.left new.left set_limit bytes × ReadsJobs bytes text s
    × HasLoaded text s before now)
MayHaveLoaded old new before now _ = Unit {0}

-- ---- all executions

-- an execution was done: `out` took its whole text, and the gates and the jobs ran the schedule. A drill read nothing
abbrev pub ToldRun : Execution → Streams → Streams → Crew → Crew → Type 0
ToldRun (Exec window) old new before now = IsTold set_limit (WritesRun false before now) Done old new
ToldRun ExecMet old new before now = IsTold set_limit (WritesRun true before now) Done old new
ToldRun Jobs old new before now = IsTold set_limit (WritesJobsRun before now) Done old new
ToldRun Modes old new before now = IsTold set_limit (WritesModesRun before now) Done old new
ToldRun (Drill number) old new before now = IsUnread old new × RanDrill number old.out new.out before now

-- why an execution stopped, what `out` took, and what the gates and the jobs did. A drill read nothing
abbrev pub StopsRun : Execution → Streams → Streams → Crew → Crew → Refusal → Type 0
StopsRun (Exec window) old new before now refusal = StopsAs set_limit (WritesRun false before now) (RefusesRun window false before now) old new refusal
StopsRun ExecMet old new before now refusal = StopsAs set_limit (WritesRun true before now) (RefusesRun usual_window true before now) old new refusal
StopsRun Jobs old new before now refusal =
    StopsAs set_limit (WritesJobsRun before now) (RefusesJobsRun before now) old new refusal × MayHaveLoaded old new before now refusal
StopsRun Modes old new before now refusal =
    StopsAs set_limit (WritesModesRun before now) (RefusesModesRun before now) old new refusal × MayHaveRun old new before now refusal
StopsRun (Drill number) old new before now refusal =
    IsUnread old new × StopsAtDrill number old.out new.out old.out_faults new.out_faults before now refusal

-- how each command ends with this status, what `err` took, and what the gates and the jobs did
abbrev pub EndsWith : Command → Streams → Streams → ErrorStream → ErrorStream → Crew → Crew → Status → Type 0
EndsWith (Read reading) old new err err' before now status = Ends (output_of reading) old new err err' status
EndsWith Batch old new err err' before now status = Ends of_batch old new err err' status
EndsWith (Execute e) old new err err' before now status =
    ((status ≡ Done) × ToldRun e old new before now × IsQuiet err err')
    ⊎ ((refusal : Refusal) × (status ≡ status_of refusal) × StopsRun e old new before now refusal × Tells err err' (refusal_line refusal))

-- no gate and no job failed, where the command calls any
abbrev pub NoneFailed : Option Command → Crew → Crew → Type 0
NoneFailed (Some (Execute e)) old new = NothingRose old new
NoneFailed asked old new = Unit {0}

-- whether a gate or a job may have been called: by an execution that was done, that failed on the way, or whose text wasn't taken
abbrev pub may_have_called : Status → Bool
may_have_called Done = true
may_have_called WriteFault = true
may_have_called GateFault = true
may_have_called JobFault = true
may_have_called status = false

-- whether memory may be refused once a gate or a job was touched: a drill takes memory for the trace of its rows once they were run,
-- `jobs` loads one program after the other, and `modes` takes the memory of a mode before it begins it
abbrev pub takes_memory_late : Option Command → Bool
takes_memory_late (Some (Execute (Drill number))) = true
takes_memory_late (Some (Execute Jobs)) = true
takes_memory_late (Some (Execute Modes)) = true
takes_memory_late _ = false

-- whether gates or jobs may have run, by the command and by how the call ended
abbrev pub may_have_run : Option Command → Status → Bool
may_have_run asked NoMemory = takes_memory_late asked
may_have_run asked status = may_have_called status

-- ---- the parts of an execution

-- how a part of an execution ended: with what it told, or with why it stopped. `Uncalled` is what is so where the status of a refusal
-- says that no gate and no job was called
pub record EndsPart {T : Type 0} (Told : Type 0) (Stops : Refusal → Type 0) (called : Status → Bool) (before now : Crew) (Uncalled : Type 0)
    (result : Result T Refusal) : Type 0 where
  pub told : OnOk result Told
  pub stops : IfErr result Stops
  pub uncalled : IfErr result (λ refusal. called (status_of refusal) ≡ false → Uncalled)
  pub back : AreBack before now

-- how a whole execution ended
abbrev pub EndsExecution : {T : Type 0} → Execution → Streams → Streams → Crew → Crew → Type 0 → Result T Refusal → Type 0
EndsExecution e old new before now Uncalled result =
    EndsPart (ToldRun e old new before now) (StopsRun e old new before now) (may_have_run (Some (Execute e))) before now Uncalled result
