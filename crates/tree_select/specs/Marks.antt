-- Marks of nodes, as the bits of words.
use Rattle.std.specs.Prelude.{ℕ, ◌≡◌, ◌/◌, ◌%◌, nat_eq, Bool, true, List, map, slice_index}
use Rattle.std.specs.Int.{bit_at}
use Rattle.std.specs.List.{range_with_len}

-- whether bit k of a word is set
abbrev pub has_bit : ℕ → ℕ → Bool
has_bit word k = nat_eq (bit_at word k) 1

-- whether node n has a mark
abbrev pub is_marked : List ℕ → ℕ → Bool
is_marked words n = has_bit (slice_index words (n / 64)) (n % 64)

-- the marks of the first `count` nodes
abbrev pub marks_by : List ℕ → ℕ → List Bool
marks_by words count = map (is_marked words) (range_with_len 0 count)

-- the mark of node n stands in this word, and the mask shows it
abbrev pub IsShown : ℕ → ℕ → ℕ → Type 0
IsShown word mask n = (n / 64 ≡ word) × (has_bit mask (n % 64) ≡ true)
