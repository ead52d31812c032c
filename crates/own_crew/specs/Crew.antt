-- What the own job holds.
use Rattle.std.specs.Prelude.{ℕ}

-- which job it is, the ticks that it has worked, and how often it has failed
pub record BoundedHeld : Type 0 where
  pub id : ℕ
  pub used : ℕ
  pub faults : ℕ
