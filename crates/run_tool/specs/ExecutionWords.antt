-- How a call whose words ask for an execution ends: the clauses of the top call, for these words.
use Rattle.std.specs.Prelude.{ℕ, ◌≡◌, ◌≢◌, ◌↔◌, false, List, Some, None}
use Rattle.command_words.specs.Words.{command_of}
use Rattle.command_words.specs.declared.command.Command.{Command}
use Rattle.pure_commands.specs.Ends.{Streams, ErrorStream, IsUsage}
use Rattle.exit_status.specs.declared.Status.{Status}
use Rattle.exit_status.specs.declared.Status.TheVariants.{Done, Invalid, Usage, NoMemory}
use Rattle.run_tool.specs.Ends.{IsCommandDone, IsCommandAnswered}
use Rattle.run_tool.specs.Executed.{EndsWith, NoneFailed, may_have_run}
use Rattle.run_tool.specs.Executions.{Crew, AreBack}

-- the call ended with this status; `Uncalled` is what is so where no gate and no job was called
pub record EndsAsked (words : List (List ℕ)) (old new : Streams) (err err' : ErrorStream) (before now : Crew) (Uncalled : Type 0) (status : Status)
    : Type 0 where
  pub usage : status ≢ NoMemory → ((status ≡ Usage) ↔ (command_of words ≡ None))
  pub unread : command_of words ≡ None → IsUsage old new err err' status
  pub done : status ≡ Done → (c : Command) × (command_of words ≡ Some c) × IsCommandDone c Done old new before
  pub valid : status ≢ Invalid
  pub ends : (c : Command) → command_of words ≡ Some c → EndsWith c old new err err' before now status
  pub uncalled : may_have_run (command_of words) status ≡ false → Uncalled
  pub back : AreBack before now
  pub answered : NoneFailed (command_of words) before now → IsCommandAnswered (command_of words) old.left old new status
