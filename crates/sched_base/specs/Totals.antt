-- Sums of ticks, one for each task.
use Rattle.std.specs.Prelude.{ℕ, List}

-- the ticks of the first tasks, and for how many more there is room
pub record TotalsHeld : Type 0 where
  pub ticks : List ℕ
  pub room : ℕ
