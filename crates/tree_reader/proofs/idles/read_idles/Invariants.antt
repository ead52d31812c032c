use Rattle.std.proofs.Common.{◌≡◌, ◌-◌, ◌≤◌, [], length}
use Rattle.std.specs.List.{AllByRecursion}
use Rattle.text_words.specs.Words.{lines_of}
use Rattle.tree_reader.specs.Reading.{idles_from}
use Rattle.tree_reader.proofs.idles.read_idles.Given as goal

abbrev pub invariant-loop-k : goal.invariant-loop-k
invariant-loop-k l =
    (idles_from l.first l.scale l.count [] (lines_of l.text) ≡ idles_from l.first l.scale (l.count - l.k) l.idles.items (lines_of l.rest))
    × (length l.idles.items ≡ l.k)
    × AllByRecursion (λ r. (1 ≤ r) × (r ≤ l.scale)) l.idles.items
