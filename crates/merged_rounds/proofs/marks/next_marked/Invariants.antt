use Rattle.std.proofs.Common.{◌≡◌, ◌-◌, ◌<◌, ◌≤◌, ℕ, false}
use Rattle.merged_rounds.specs.Marks.{is_marked}
use Rattle.merged_rounds.proofs.marks.next_marked.Given as goal

abbrev pub invariant-words : goal.invariant-words
invariant-words l = (l.from ≤ l.k) × ((j : ℕ) → l.from ≤ j → j < l.k → is_marked l.words j ≡ false)

abbrev pub decreases-words : goal.decreases-words
decreases-words l = l.count - l.k
