-- The end of a run over an `out` that keeps bytes back.
use Rattle.std.specs.Prelude.{ℕ, ◌≡◌, List, [], OnOk}
use Rattle.std.specs.declared.result.Result.{Result}
use Rattle.std.specs.declared.result.Result.TheVariants.{Ok, Err}
use Rattle.sched_edges.specs.Causes.{HasCause}
use Rattle.sched_edges.specs.declared.streams.Failed.{Failed}
use Rattle.pure_commands.specs.declared.refusal.Refusal.TheVariants as why
use Rattle.exit_status.specs.declared.Status.{Status}
use Rattle.exit_status.specs.declared.Status.TheVariants.{Done, Invalid, WriteFault}
use Rattle.pure_commands.specs.Refusals.{refusal_line}
use Rattle.pure_commands.specs.Ends.{ErrorStream, IsQuiet, Tells}

-- the status of a run that had this status before `out` failed to hand on what it kept back
abbrev pub after_fault : Status → Status
after_fault Done = WriteFault
after_fault Invalid = WriteFault
after_fault status = status

-- the status of a run that had this status before `out` was to hand on what it kept back
abbrev pub closed : Status → Result (Unit {0}) Failed → Status
closed status (Ok _) = status
closed status (Err _) = after_fault status

-- what `err` takes where `out` failed then: the line of that fault, where no other was told
abbrev pub TellsFault : Status → ErrorStream → ErrorStream → Type 0
TellsFault Done old new = Tells old new (refusal_line why.WriteFault)
TellsFault Invalid old new = Tells old new (refusal_line why.WriteFault)
TellsFault status old new = IsQuiet old new

-- what `err` takes at the end of a run
abbrev pub TellsClosed : Status → Result (Unit {0}) Failed → ErrorStream → ErrorStream → Type 0
TellsClosed status (Ok _) old new = IsQuiet old new
TellsClosed status (Err _) old new = TellsFault status old new

-- a run that had this status ended with that one: `out` was asked to hand on, and this is what it keeps back now
pub record IsClosed (status result : Status) (kept : List ℕ) (before now : ℕ) (old new : ErrorStream) : Type 0 where
  pub flushed : Result (Unit {0}) Failed
  pub handed_on : OnOk flushed (kept ≡ [])
  pub cause : HasCause before now flushed
  pub status_is : result ≡ closed status flushed
  pub told : TellsClosed status flushed old new
