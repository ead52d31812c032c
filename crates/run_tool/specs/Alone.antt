-- How a call of the program ends: as the top call, with gates and jobs that were made for it.
use Rattle.std.specs.Prelude.{ℕ, ◌≡◌, ◌≢◌, ◌↔◌, true, List, [], Some, None}
use Rattle.std.specs.Io.KnownBytes.{Keeps}
use Rattle.command_words.specs.Words.{command_of, asks_to_execute}
use Rattle.command_words.specs.declared.command.Command.{Command}
use Rattle.command_words.specs.declared.command.Command.TheVariants.{Read}
use Rattle.command_words.specs.declared.command.Reading.TheVariants.{Check}
use Rattle.pure_commands.specs.Commands.{of_trace}
use Rattle.pure_commands.specs.Ends.{Streams, ErrorStream, IsDone, IsUsage}
use Rattle.exit_status.specs.declared.Status.{Status}
use Rattle.exit_status.specs.declared.Status.TheVariants.{Done, Invalid, Usage, NoMemory, GateFault}
use Rattle.run_tool.specs.Closing.{IsClosed}
use Rattle.run_tool.specs.Ends.{IsCommandDone}
use Rattle.run_tool.specs.Executed.{EndsWith}
use Rattle.run_tool.specs.Executions.{GateSeen, JobSeen, Crew, Holds, IsFreshCrew}

-- each job runs a program, which is the empty one so far, in units of one tick
abbrev pub RunPrograms : Crew → Type 0
RunPrograms c = (i : ℕ) (j : JobSeen) → Holds c.jobs i j → j.made ≡ Some (1, [])

-- no gate has failed
abbrev pub AreSure : Crew → Type 0
AreSure c = (q : ℕ) (g : GateSeen) → Holds c.gates q g → g.faults ≡ 0

-- the command ended with this status; an execution that memory wasn't refused to began with a fresh crew, whose jobs run programs and
-- whose gates don't fail
pub record EndsWithOwn (words : List (List ℕ)) (c : Command) (old new : Streams) (err err' : ErrorStream) (status : Status) : Type 0 where
  pub before : Crew
  pub now : Crew
  pub fresh : asks_to_execute words ≡ true → status ≢ NoMemory → IsFreshCrew before
  pub programs : RunPrograms before
  pub sure : AreSure now
  pub ends : EndsWith c old new err err' before now status

-- the command was done; an execution began with a fresh crew, whose jobs run programs
pub record IsDoneWithOwn (words : List (List ℕ)) (old new : Streams) : Type 0 where
  pub command : Command
  pub asked : command_of words ≡ Some command
  pub before : Crew
  pub fresh : asks_to_execute words ≡ true → IsFreshCrew before
  pub programs : RunPrograms before
  pub done : IsCommandDone command Done old new before

-- the clauses of the top call; its gates never fail, so the status is never that of a gate's fault
pub record EndsAlone (words : List (List ℕ)) (old new : Streams) (err err' : ErrorStream) (status : Status) : Type 0 where
  pub usage : status ≢ NoMemory → ((status ≡ Usage) ↔ (command_of words ≡ None))
  pub done : status ≡ Done → IsDoneWithOwn words old new
  pub invalid : status ≡ Invalid → (command_of words ≡ Some (Read Check)) × IsDone of_trace Invalid old new
  pub ends : (c : Command) → command_of words ≡ Some c → EndsWithOwn words c old new err err' status
  pub sure : status ≢ GateFault

-- the program ended with this status: the words' command ended first, with a status and a line of its own, and then `out` was asked to
-- hand on what it kept back, of which it keeps this
pub record EndsClosed (words : List (List ℕ)) (old new : Streams) (err err' : ErrorStream) (kept : List ℕ) (result : Status) : Type 0 where
  pub status : Status
  pub mid : Streams
  pub told : ErrorStream
  pub ends : EndsAlone words old mid err told status
  pub unread : command_of words ≡ None → IsUsage old mid err told status
  pub left : new.left ≡ mid.left
  pub read_faults : new.read_faults ≡ mid.read_faults
  pub out : Keeps mid.out new.out
  pub closed : IsClosed status result kept mid.out_faults new.out_faults told err'
