-- How a call of any command ends: what was read and written. What an execution does with the gates and the jobs is said beside.
use Rattle.std.specs.Prelude.{◌≡◌, ◌⊎◌, ℕ, List, Option, Some}
use Rattle.sched_edges.specs.Causes.{Rose}
use Rattle.command_words.specs.declared.command.Command.{Command}
use Rattle.command_words.specs.declared.command.Command.TheVariants.{Read, Batch, Execute}
use Rattle.command_words.specs.declared.command.Execution.TheVariants.{Drill}
use Rattle.exit_status.specs.declared.Status.{Status}
use Rattle.exit_status.specs.declared.Status.TheVariants.{Done, NoMemory}
use Rattle.pure_commands.specs.Commands.{of_batch, output_of, set_limit}
use Rattle.pure_commands.specs.Ends.{Streams, IsDoneSoundly, AnswersAs, IsAnswered}
use Rattle.run_tool.specs.Executions.{Crew}
use Rattle.run_tool.specs.Executed.{ToldRun}
use Rattle.run_tool.specs.Commands.{CallsForExecution, RefusesExecution}

-- a command told all that there is to tell, with this status, and what the text tells of a set or of a tree is sound; an execution
-- began with this crew, which ran what the text tells
abbrev pub IsCommandDone : Command → Status → Streams → Streams → Crew → Type 0
IsCommandDone (Read reading) status old new before = IsDoneSoundly (output_of reading) status old new
IsCommandDone Batch status old new before = IsDoneSoundly of_batch status old new
IsCommandDone (Execute e) status old new before = (status ≡ Done) × ((now : Crew) × ToldRun e old new before now)

-- the command that was asked for, if one was, answers its bytes. A drill reads none: where nothing fails it is done, or memory was refused
abbrev pub IsCommandAnswered : Option Command → Option (List ℕ) → Streams → Streams → Status → Type 0
IsCommandAnswered (Some (Execute (Drill number))) left old new status =
    ¬ (Rose old.out_faults new.out_faults) → (status ≡ Done) ⊎ (status ≡ NoMemory)
IsCommandAnswered (Some (Execute e)) left old new status = AnswersAs set_limit (CallsForExecution e) (RefusesExecution e) left old new status
IsCommandAnswered asked left old new status = IsAnswered asked left old new status
