-- Marks of numbers, as the bits of words.
use Rattle.std.specs.Prelude.{ℕ, ◌/◌, ◌%◌, nat_eq, Bool, List, map, slice_index}
use Rattle.std.specs.Int.{bit_at}
use Rattle.std.specs.List.{range_with_len}

-- whether number k has a mark
abbrev pub is_marked : List ℕ → ℕ → Bool
is_marked words k = nat_eq (bit_at (slice_index words (k / 64)) (k % 64)) 1

-- the marks of the first `count` numbers
abbrev pub marks_by : List ℕ → ℕ → List Bool
marks_by words count = map (is_marked words) (range_with_len 0 count)
