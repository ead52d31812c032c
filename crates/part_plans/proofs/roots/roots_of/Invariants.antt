use Rattle.std.proofs.Common.{◌≡◌, length}
use Rattle.part_plans.proofs.roots.roots_of.Given as goal

abbrev pub invariant-loop-n : goal.invariant-loop-n
invariant-loop-n l = length l.part.items ≡ l.n
