use Rattle.std.proofs.Common.{◌≡◌}
use Rattle.part_plans.proofs.part_sets.with_pack.Given as goal

abbrev pub invariant-loop-k : goal.invariant-loop-k
invariant-loop-k l = l.more.horizon ≡ l.fn.set.horizon
