use Rattle.tree_select.specs.Masks.{AreSpansOf}
use Rattle.tree_select.proofs.masks.add_levels.Given as goal

abbrev pub invariant-loop-level : goal.invariant-loop-level
invariant-loop-level l = AreSpansOf l.tree l.groups.items l.spans.items l.level
