-- Which texts are names of tasks.
use Rattle.std.specs.Prelude.{ℕ, Bool, false, ◌==◌, ◌&&◌, ◌||◌, nat_le, List, [], ◌∷◌, length}
use Rattle.std.specs.List.{list_all}
use Rattle.sched_base.specs.Bytes.{full_stop, hyphen, underscore}

-- A to Z or a to z
abbrev pub is_letter : ℕ → Bool
is_letter b = (nat_le 65 b && nat_le b 90) || (nat_le 97 b && nat_le b 122)

-- 0 to 9
abbrev pub is_digit : ℕ → Bool
is_digit b = nat_le 48 b && nat_le b 57

-- a letter or `_`
abbrev pub starts_name : ℕ → Bool
starts_name b = is_letter b || b == underscore

-- a letter, a digit, `_`, `.` or `-`
abbrev pub continues_name : ℕ → Bool
continues_name b = (is_letter b || is_digit b) || ((b == underscore || b == full_stop) || b == hyphen)

-- 1 to 32 bytes: one that starts a name, and then ones that continue it
abbrev pub is_lawful_name : List ℕ → Bool
is_lawful_name [] = false
is_lawful_name (b ∷ bs) = (starts_name b && nat_le (length bs) 31) && list_all continues_name bs
