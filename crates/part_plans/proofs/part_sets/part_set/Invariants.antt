use Rattle.std.proofs.Common.{◌≡◌}
use Rattle.part_plans.proofs.part_sets.part_set.Given as goal

abbrev pub invariant-loop-k : goal.invariant-loop-k
invariant-loop-k l = l.set.horizon ≡ l.whole.set.horizon
