use Rattle.std.proofs.Common.{◌≡◌, length}
use Rattle.tree_reader.specs.Members.{words_of, members_from}
use Rattle.tree_reader.proofs.WordLemmas.{after}
use Rattle.tree_reader.proofs.members.read_members.Given as goal

abbrev pub invariant-loop-word : goal.invariant-loop-word
invariant-loop-word l = members_from l.level (words_of l.text) ≡ after l.members.items (members_from l.level (words_of l.rest))

abbrev pub decreases-loop-word : goal.decreases-loop-word
decreases-loop-word l = length l.rest
