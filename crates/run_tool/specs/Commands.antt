-- Which bytes each execution executes, and which it refuses and why, whatever the gates and the jobs do. A new execution adds its case to
-- these definitions.
use Rattle.std.specs.Prelude.{ℕ, ◌≡◌, Bool, true, false, List}
use Rattle.sched_base.specs.Sets.{SetContents}
use Rattle.sched_base.specs.Scale.{Fits}
use Rattle.job_vm.specs.Programs.{JobTextHeld}
use Rattle.mode_join.specs.Modes.{ModesContents}
use Rattle.command_words.specs.declared.command.Execution.{Execution}
use Rattle.command_words.specs.declared.command.Execution.TheVariants.{Exec, ExecMet, Drill, Jobs, Modes}
use Rattle.pure_commands.specs.declared.refusal.Refusal.{Refusal}
use Rattle.exit_status.specs.declared.Status.{Status}
use Rattle.exit_status.specs.declared.Status.TheVariants.{Done}
use Rattle.pure_commands.specs.SetTexts.{schedule_rows, ReadsSet, HasRoom, RefusesText}
use Rattle.run_tool.specs.JobPrograms.{IsJobsToRun, RefusesJobs}
use Rattle.run_tool.specs.ModeTexts.{ReadsModes, RefusesModes}

-- the bytes are a set that fits, whose schedule has room
pub record IsToRun (met : Bool) (bytes : List ℕ) (s : SetContents) (scale : ℕ) : Type 0 where
  pub reads : ReadsSet bytes s scale
  pub fits : Fits scale s
  pub room : HasRoom (schedule_rows met) s scale

-- the bytes call for this status: that of an execution is `Done` where they can be executed; a drill reads none
abbrev pub CallsForExecution : Execution → List ℕ → Status → Type 0
CallsForExecution (Exec window) bytes status = (status ≡ Done) × ((s : SetContents) × (scale : ℕ) × IsToRun false bytes s scale)
CallsForExecution ExecMet bytes status = (status ≡ Done) × ((s : SetContents) × (scale : ℕ) × IsToRun true bytes s scale)
CallsForExecution Jobs bytes status =
    (status ≡ Done) × ((text : JobTextHeld) × (s : SetContents) × (scale : ℕ) × IsJobsToRun bytes text s scale)
CallsForExecution Modes bytes status = (status ≡ Done) × ((m : ModesContents) × ReadsModes bytes m)
CallsForExecution (Drill number) bytes status = status ≡ Done

-- these bytes are refused for this reason; a drill refuses none
abbrev pub RefusesExecution : Execution → List ℕ → Refusal → Type 0
RefusesExecution (Exec window) bytes refusal = RefusesText (schedule_rows false) bytes refusal
RefusesExecution ExecMet bytes refusal = RefusesText (schedule_rows true) bytes refusal
RefusesExecution Jobs bytes refusal = RefusesJobs bytes refusal
RefusesExecution Modes bytes refusal = RefusesModes bytes refusal
RefusesExecution (Drill number) bytes refusal = ⊥
