use Rattle.std.proofs.Common.{ℕ, ◌<◌}
use Rattle.part_plans.specs.Likeness.{IsNodeLike}
use Rattle.part_plans.proofs.part_checks.is_part.Given as goal

abbrev pub invariant-loop-n : goal.invariant-loop-n
invariant-loop-n l = (n : ℕ) → n < l.n → IsNodeLike l.whole l.own l.onto l.factor n
