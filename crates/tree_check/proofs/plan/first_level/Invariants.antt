use Rattle.std.proofs.Common.{◌≡◌}
use Rattle.tree_check.specs.Written.{level_at}
use Rattle.tree_check.specs.Faults.{before}
use Rattle.tree_check.specs.FirstSteps.{first_making}
use Rattle.tree_check.proofs.plan.first_level.Given as goal

abbrev pub invariant-loop-i : goal.invariant-loop-i
invariant-loop-i l = l.maker ≡ first_making l.tree (before (level_at l.tree 0) l.i)
