use Rattle.std.proofs.Common.{◌≤◌}
use Rattle.tree_select.specs.Marked.{AreLed, AreServed, AreFreshFrom}
use Rattle.tree_select.proofs.refreshed.refresh_all.Given as goal

abbrev pub invariant-loop-level : goal.invariant-loop-level
invariant-loop-level l =
    (l.level ≤ l.tree.levels) × AreLed l.tree l.runs × AreServed l.tree l.remains l.ends l.stale l.runs × AreFreshFrom l.tree l.stale l.level

abbrev pub decreases-loop-level : goal.decreases-loop-level
decreases-loop-level l = l.level
