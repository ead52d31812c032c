use Rattle.tree_select.specs.Marked.{AreLed, AreServed, AreFresh}
use Rattle.tree_select.proofs.refreshed.refresh_level.Given as goal

abbrev pub invariant-loop-i : goal.invariant-loop-i
invariant-loop-i l = AreLed l.tree l.runs × AreServed l.tree l.remains l.ends l.stale l.runs × AreFresh l.tree l.stale l.level l.i
