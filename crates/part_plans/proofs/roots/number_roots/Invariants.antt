use Rattle.std.proofs.Common.{◌≤◌}
use Rattle.part_plans.proofs.roots.number_roots.Given as goal

abbrev pub invariant-loop-i : goal.invariant-loop-i
invariant-loop-i l = l.count ≤ l.i
