-- What is told of a refusal.
use Rattle.std.specs.Prelude.{◌≡◌}
use Rattle.pure_commands.specs.declared.refusal.Refusal.{Refusal}
use Rattle.exit_status.specs.declared.Status.{Status}
use Rattle.pure_commands.specs.Refusals.{status_of, refusal_line}
use Rattle.pure_commands.specs.Ends.{ErrorStream, Tells}

-- the line and the status are those of the refusal
pub record IsRefused (refusal : Refusal) (old new : ErrorStream) (status : Status) : Type 0 where
  pub status_is : status ≡ status_of refusal
  pub tells : Tells old new (refusal_line refusal)
