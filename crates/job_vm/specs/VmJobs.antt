-- What a job that runs a program holds.
use Rattle.std.specs.Prelude.{ℕ, List}

-- the job's task, its ticks, its unit and its program
pub record VmHeld : Type 0 where
  pub id : ℕ
  pub used : ℕ
  -- the ticks of a unit
  pub scale : ℕ
  -- the words of its program
  pub code : List ℕ
