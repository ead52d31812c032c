-- What the source and the sink in memory hold.
use Rattle.std.specs.Prelude.{ℕ, ◌+◌, ◌-◌, ◌^◌, ◌==◌, min, Bool, List, length}
use Rattle.std.specs.List.{list_any}

-- what contracts see of a source in memory, for tests
pub record SourceHeld : Type 0 where
  -- the bytes still to come
  pub left : List ℕ
  -- the numbers of the calls that fail
  pub fails : List ℕ
  -- the calls made so far
  pub calls : ℕ
  pub faults : ℕ

-- what contracts see of a sink in memory, for tests
pub record SinkHeld : Type 0 where
  pub taken : List ℕ
  -- how many bytes it takes in all
  pub room : ℕ
  -- the numbers of the calls that fail
  pub fails : List ℕ
  -- the calls made so far
  pub calls : ℕ
  pub faults : ℕ

-- the number of the call after so many, which stays at the end of its type (64 bits)
abbrev pub next_call : ℕ → ℕ
next_call calls = min (calls + 1) (2 ^ 64 - 1)

-- whether the call of this number is one of those that fail
abbrev pub is_listed : List ℕ → ℕ → Bool
is_listed fails call = list_any (λ number. number == call) fails

-- how many more bytes it takes
abbrev pub room_left : SinkHeld → ℕ
room_left s = s.room - length s.taken
