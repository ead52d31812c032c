-- A clock that goes through the periods of a task.
use Rattle.std.specs.Prelude.{ℕ, ◌-◌, ◌/◌}

-- periods of so many ticks, of which the first begins at `base`, and the number of the one at which the clock stands
pub record ClockState : Type 0 where
  pub base : ℕ
  pub span : ℕ
  pub number : ℕ

-- the number of the period that has this tick
abbrev pub period_at : ℕ → ℕ → ℕ → ℕ
period_at base span tick = (tick - base) / span
