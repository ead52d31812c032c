-- The parts of `jobs`: reading a job text, and running its set.
use Rattle.std.specs.Prelude.{◌≡◌, ◌⊎◌, ℕ, ◌+◌, false, List, Ok, Err}
use Rattle.std.specs.declared.option.Option.{Option}
use Rattle.std.specs.Io.KnownBytes.{Appends, Keeps}
use Rattle.sched_base.specs.Sets.{SetContents}
use Rattle.sched_edges.specs.Causes.{Rose}
use Rattle.sched_edges.specs.Streams.{GaveAll, GaveAtMost, GaveCount, TookPart}
use Rattle.task_reader.specs.Reading.{set_read_from}
use Rattle.job_vm.specs.Programs.{JobTextHeld, reading}
use Rattle.pure_commands.specs.declared.refusal.Refusal.{Refusal}
use Rattle.pure_commands.specs.declared.refusal.Refusal.TheVariants as why
use Rattle.pure_commands.specs.SetTexts.{schedule_rows, plan_of, HasRoom}
use Rattle.run_tool.specs.JobPrograms.{ReadsJobs, HasBadProgram, set_bytes, result_text}
use Rattle.pure_commands.specs.Input.{IsSchedulable, IsRefusedSet, IsTooLongSet}
use Rattle.run_tool.specs.Executions.{Crew, RanAll, usual_window}
use Rattle.run_tool.specs.Executed.{StopsInRun, HasLoaded}
use Rattle.run_tool.specs.Executions.{loaded_crew}

-- the source gave all its bytes, at most the limit, and they are this job text with this set
pub record GaveJobs (left left' : Option (List ℕ)) (limit : ℕ) (text : JobTextHeld) (s : SetContents) : Type 0 where
  pub gave : (bytes : List ℕ) × GaveAll left left' limit bytes × ReadsJobs bytes text s

-- why no job text was read
abbrev pub GaveNoJobs : Option (List ℕ) → Option (List ℕ) → ℕ → ℕ → ℕ → Refusal → Type 0
GaveNoJobs left left' faults faults' limit why.ReadFault = Rose faults faults' × GaveAtMost left left' limit
GaveNoJobs left left' faults faults' limit why.NoMemory = Unit {0}
GaveNoJobs left left' faults faults' limit (why.InputTooLong count) = (count ≡ limit + 1) × GaveCount left left' count
GaveNoJobs left left' faults faults' limit (why.BadProgram line) = (bytes : List ℕ) × GaveAll left left' limit bytes × HasBadProgram bytes line
GaveNoJobs left left' faults faults' limit (why.BadSet refusal) =
    (bytes : List ℕ) × GaveAll left left' limit bytes × ((text : JobTextHeld) × (reading bytes ≡ Ok text)
    × (set_read_from (set_bytes text bytes) ≡ Err refusal))
GaveNoJobs left left' faults faults' limit _ = ⊥

-- why bytes are no job text with its set; want of memory is free
abbrev pub RefusesJobText : List ℕ → Refusal → Type 0
RefusesJobText bytes (why.BadProgram line) = HasBadProgram bytes line
RefusesJobText bytes (why.BadSet refusal) =
    (text : JobTextHeld) × (reading bytes ≡ Ok text) × (set_read_from (set_bytes text bytes) ≡ Err refusal)
RefusesJobText bytes why.NoMemory = Unit {0}
RefusesJobText bytes _ = ⊥

-- the schedule of a set was run with the programs of a job text, and what they computed was written
abbrev pub RanJobs : JobTextHeld → Option (List ℕ) → Option (List ℕ) → Crew → Crew → SetContents → Type 0
RanJobs text out out' old new s =
    (scale : ℕ) × IsSchedulable s scale × HasRoom (schedule_rows false) s scale × Appends out out' (result_text text (plan_of s scale) old.jobs)
    × RanAll (plan_of s scale) (loaded_crew text.programs scale s.tasks old) new

-- why the schedule wasn't run, or the text not written. Where memory was refused, no gate was called and no job worked, and the
-- programs of the first tasks may have been loaded
abbrev pub StopsAtJobs : JobTextHeld → Option (List ℕ) → Option (List ℕ) → ℕ → ℕ → Crew → Crew → SetContents → Refusal → Type 0
StopsAtJobs text out out' faults faults' old new s why.WriteFault =
    (scale : ℕ) × IsSchedulable s scale × HasRoom (schedule_rows false) s scale × TookPart out out' (result_text text (plan_of s scale) old.jobs)
    × Rose faults faults' × RanAll (plan_of s scale) (loaded_crew text.programs scale s.tasks old) new
StopsAtJobs text out out' faults faults' old new s (why.GateFault row name) =
    (scale : ℕ) × IsSchedulable s scale × HasRoom (schedule_rows false) s scale
    × StopsInRun (plan_of s scale) usual_window (loaded_crew text.programs scale s.tasks old) new (why.GateFault row name) × Keeps out out'
StopsAtJobs text out out' faults faults' old new s (why.JobFault row name) =
    (scale : ℕ) × IsSchedulable s scale × HasRoom (schedule_rows false) s scale
    × StopsInRun (plan_of s scale) usual_window (loaded_crew text.programs scale s.tasks old) new (why.JobFault row name) × Keeps out out'
StopsAtJobs text out out' faults faults' old new s (why.TooLong rows) = IsTooLongSet (schedule_rows false) s rows × Keeps out out'
StopsAtJobs text out out' faults faults' old new s why.NoMemory = ((new ≡ old) ⊎ HasLoaded text s old new) × Keeps out out'
StopsAtJobs text out out' faults faults' old new s refusal = IsRefusedSet s refusal × Keeps out out'
