-- The lines of idle leaves, levels and packs.
use Rattle.std.specs.Prelude.{ℕ, ◌==◌, if◌then◌else◌, List, Option, None, option_map, option_and_then, codes}
use Rattle.text_words.specs.Words.{cut_space, after_word, number_of}
use Rattle.trace_check.specs.Steps.{within}
use Rattle.tree_check.specs.Written.{Pack}
use Rattle.tree_reader.specs.Members.{words_of, members_from}

-- a rate of at most the scale, and the members of level l
abbrev pub pack_from : ℕ → ℕ → List ℕ × List ℕ → Option Pack
pack_from scale l p =
    option_and_then (λ r. option_map (λ ms. record { rate = r; members = ms }) (members_from l (words_of p.1)))
    (option_and_then (within 0 scale) (number_of p.0))

-- the pack of a line of level l
abbrev pub pack_of : ℕ → ℕ → List ℕ → Option Pack
pack_of scale l line = option_and_then (λ rest. option_and_then (pack_from scale l) (cut_space rest)) (after_word (codes "pack") line)

-- the number from `low` to `high` of two, of which the first is k
abbrev pub number_behind : ℕ → ℕ → ℕ → List ℕ × List ℕ → Option ℕ
number_behind k low high p = option_and_then (λ i. if i == k then option_and_then (within low high) (number_of p.1) else None) (number_of p.0)

-- the second of the two numbers of a line that begins with this word
abbrev pub second_number : List ℕ → ℕ → ℕ → ℕ → List ℕ → Option ℕ
second_number word k low high line = option_and_then (λ rest. option_and_then (number_behind k low high) (cut_space rest)) (after_word word line)
