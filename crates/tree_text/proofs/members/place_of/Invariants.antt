use Rattle.tree_text.proofs.SearchLemmas.{OthersBefore}
use Rattle.tree_text.proofs.members.place_of.Given as goal

abbrev pub invariant-loop-i : goal.invariant-loop-i
invariant-loop-i l = OthersBefore l.tree l.level l.pack.0 l.i
