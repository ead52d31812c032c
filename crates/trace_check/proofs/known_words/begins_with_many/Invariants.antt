use Rattle.std.proofs.Common.{ℕ, ◌≡◌, ◌-◌, ◌<◌, slice_index}
use Rattle.trace_check.proofs.known_words.begins_with_many.Given as goal

abbrev pub invariant-loop-at : goal.invariant-loop-at
invariant-loop-at l = (k : ℕ) → k < l.at → slice_index l.text k ≡ slice_index l.word k

abbrev pub decreases-loop-at : goal.decreases-loop-at
decreases-loop-at l = l.last - l.at
