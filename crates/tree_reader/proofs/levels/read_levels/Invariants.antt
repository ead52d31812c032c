use Rattle.std.proofs.Common.{◌≡◌, ℕ, ◌+◌, ◌<◌, ◌≤◌, [], length, get_or}
use Rattle.text_words.specs.Words.{lines_of}
use Rattle.tree_check.specs.Written.{IsWrittenLevel}
use Rattle.tree_reader.specs.Reading.{levels_from, lines_so_far}
use Rattle.tree_reader.proofs.levels.read_levels.Given as goal

abbrev pub invariant-loop-rest : goal.invariant-loop-rest
invariant-loop-rest l =
    (levels_from l.scale l.first 0 [] (lines_of l.text) ≡ levels_from l.scale l.at 0 l.levels.items (lines_of l.rest))
    × (l.at ≡ l.first + lines_so_far l.levels.items)
    × (l.at + length l.rest ≤ l.first + length l.text)
    × ((k : ℕ) → k < length l.levels.items → IsWrittenLevel l.scale k (get_or l.levels.items k []))

abbrev pub decreases-loop-rest : goal.decreases-loop-rest
decreases-loop-rest l = length l.rest
