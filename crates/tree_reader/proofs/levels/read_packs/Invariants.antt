use Rattle.std.proofs.Common.{◌≡◌, ◌+◌, ◌-◌, ◌≤◌, [], length}
use Rattle.std.specs.List.{AllByRecursion}
use Rattle.text_words.specs.Words.{lines_of}
use Rattle.tree_check.specs.Written.{IsWrittenPack}
use Rattle.tree_reader.specs.Reading.{packs_from}
use Rattle.tree_reader.proofs.levels.read_packs.Given as goal

abbrev pub invariant-loop-i : goal.invariant-loop-i
invariant-loop-i l =
    (packs_from l.scale l.level l.first l.count [] (lines_of l.text) ≡ packs_from l.scale l.level l.first (l.count - l.i) l.packs.items (lines_of l.rest))
    × (length l.packs.items ≡ l.i)
    × (l.i + length l.rest ≤ length l.text)
    × AllByRecursion (IsWrittenPack l.scale l.level) l.packs.items
