use Rattle.std.proofs.Common.{◌≡◌, length}
use Rattle.part_plans.proofs.embedding.embedding.Given as goal

abbrev pub invariant-loop-n : goal.invariant-loop-n
invariant-loop-n l = length l.onto.items ≡ length l.own.nodes
