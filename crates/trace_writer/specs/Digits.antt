-- The digits of a number, in parts.
use Rattle.std.specs.Prelude.{ℕ, zero, suc, ◌≡◌, ◌<◌, ◌≤◌, ◌+◌, ◌*◌, ◌/◌, ◌%◌, ◌^◌, List, [], ◌∷◌, ◌++◌, length, take, decimal}
use Rattle.sched_base.specs.Bytes.{space}

-- the last k digits of a number, those in front that are 0 too
abbrev pub low_digits : ℕ → ℕ → List ℕ
low_digits zero n = []
low_digits (suc k) n = low_digits k (n / 10) ++ (48 + n % 10) ∷ []

-- the bytes of a number's four digits as a number, the first one lowest
abbrev pub worth_of_four : ℕ → ℕ
worth_of_four n = 48 + n / 1000 + 256 * (48 + n / 100 % 10) + 65536 * (48 + n / 10 % 10) + 16777216 * (48 + n % 10)

-- four numbers as one, sixteen bits for each, the first one lowest
abbrev pub side_by_side : ℕ → ℕ → ℕ → ℕ → ℕ
side_by_side a b c d = a + 65536 * (b + 65536 * (c + 65536 * d))

-- the digits of what is in front of a number's last eight digits: none where it is 0
abbrev pub front_digits : ℕ → List ℕ
front_digits zero = []
front_digits (suc n) = decimal (suc n)

-- the number has so many digits, and they are the first ones of the eight of the other number
pub record IsRaised (number count raised : ℕ) : Type 0 where
  pub few : raised < 10 ^ 8
  pub within : count ≤ 8
  pub count_is : count ≡ length (decimal number)
  pub digits : take count (low_digits 8 raised) ≡ decimal number

-- the text begins with the digits of what is in front of a number's last eight digits
pub record IsFront (number len : ℕ) (text : List ℕ) : Type 0 where
  pub few : len ≤ 16
  pub digits : take len text ≡ front_digits number

-- the text begins with the number's digits, with a space behind them, and with those of such a front
pub record IsHeld (number high high_len : ℕ) (text : List ℕ) (len : ℕ) : Type 0 where
  pub front : IsFront high high_len text
  pub few : len ≤ 40
  pub digits : take len text ≡ decimal number
  pub word : take (len + 1) text ≡ decimal number ++ space ∷ []
