use Rattle.tree_select.proofs.RefreshLemmas.{IsUnderWay}
use Rattle.tree_select.proofs.refreshed.refresh.Given as goal

abbrev pub invariant-loop-k : goal.invariant-loop-k
invariant-loop-k l = IsUnderWay l.tree l.remains l.ends l.p.0 l.on l.chosen l.initial.stale l.stale l.runs l.k
