-- What an answer holds.
use Rattle.std.specs.Prelude.{ℕ, List}
use Rattle.exit_status.specs.declared.Status.{Status}

-- how the command ended, and its text, or the line of its refusal
pub record AnswerHeld : Type 0 where
  pub status : Status
  pub text : List ℕ
