-- Least common multiples.
use Rattle.std.specs.Prelude.{ℕ}
use Rattle.std.specs.Int.{◌∣◌}

-- a common multiple of two numbers that divides every other one
pub record IsLcm (a b multiple : ℕ) : Type 0 where
  pub left : a ∣ multiple
  pub right : b ∣ multiple
  pub least : (n : ℕ) → a ∣ n → b ∣ n → multiple ∣ n
