use Rattle.std.proofs.Common.{◌≡◌, ◌-◌}
use Rattle.tree_check.specs.TextTree.{text_making}
use Rattle.tree_check.proofs.plan.add_levels.Given as goal

abbrev pub invariant-loop-l : goal.invariant-loop-l
invariant-loop-l l = l.maker ≡ text_making l.tree (l.l - 1)
