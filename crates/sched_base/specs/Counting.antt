-- Counting: how often something holds, and sums over the first numbers.
use Rattle.std.specs.Prelude.{ℕ, zero, suc, ◌+◌, Bool, true, false}

-- 1 where it holds, else 0
abbrev pub bit : Bool → ℕ
bit true = 1
bit false = 0

-- how many of the ticks below t pass
abbrev pub ticks : (ℕ → Bool) → ℕ → ℕ
ticks passes zero = 0
ticks passes (suc t) = ticks passes t + bit (passes t)

-- the sum of the values of the numbers below n
abbrev pub sum_to : ℕ → (ℕ → ℕ) → ℕ
sum_to zero value = 0
sum_to (suc n) value = sum_to n value + value n
