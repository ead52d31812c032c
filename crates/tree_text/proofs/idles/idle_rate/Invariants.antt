use Rattle.tree_text.proofs.SearchLemmas.{NoneBefore}
use Rattle.tree_text.proofs.idles.idle_rate.Given as goal

abbrev pub invariant-loop-n : goal.invariant-loop-n
invariant-loop-n l = NoneBefore l.tree l.k l.n
