use Rattle.std.proofs.Common.{◌≡◌}
use Rattle.tree_check.specs.Written.{level_line}
use Rattle.tree_check.proofs.LevelScans.{IsFineBelow}
use Rattle.tree_check.proofs.check.first_fault.Given as goal

abbrev pub invariant-loop-l : goal.invariant-loop-l
invariant-loop-l l = (l.line ≡ level_line l.tree l.l) × IsFineBelow l.tree l.l
