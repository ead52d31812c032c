-- The step in which a table tells the starts and ends of its rows.
use Rattle.std.specs.Prelude.{ℕ, zero, suc, ◌≡◌, ◌*◌, ◌/◌, ◌%◌, ◌==◌, ◌&&◌, if◌then◌else◌, Bool, List}
use Rattle.std.specs.Int.{◌∣◌}
use Rattle.std.specs.List.{AllByRecursion, list_all}
use Rattle.sched_base.specs.declared.rows.Row.{Row}

-- the greatest number up to n that passes the test, or 0 where none does
abbrev pub greatest : (ℕ → Bool) → ℕ → ℕ
greatest test zero = 0
greatest test (suc n) = if test (suc n) then suc n else greatest test n

-- the ticks of a step: the greatest number that divides all ticks up to the horizon, and each start and end of the rows
unfoldable pub step_of : ℕ → List Row → ℕ
step_of ticks rows =
    greatest (λ step. ticks % step == 0 && list_all (λ r. r.start % step == 0 && r.end % step == 0) rows) ticks

-- times the step the whole numbers that are told of the rows are their ticks
abbrev pub AreWhole : ℕ → List Row → Type 0
AreWhole step rows = AllByRecursion (λ r. (r.start / step * step ≡ r.start) × (r.end / step * step ≡ r.end)) rows

-- so many ticks divide each start and end of the rows
abbrev pub DividesRows : ℕ → List Row → Type 0
DividesRows step rows = AllByRecursion (λ r. (step ∣ r.start) × (step ∣ r.end)) rows

-- the greatest common divisor of this number and of each start and end of the rows
pub record IsStep (ticks : ℕ) (rows : List Row) (step : ℕ) : Type 0 where
  pub divides : step ∣ ticks
  pub divides_rows : DividesRows step rows
  pub greatest : (d : ℕ) → d ∣ ticks → DividesRows d rows → d ∣ step
