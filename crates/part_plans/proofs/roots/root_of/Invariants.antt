use Rattle.std.proofs.Common.{◌<◌, length}
use Rattle.part_plans.proofs.roots.root_of.Given as goal

abbrev pub invariant-loop : goal.invariant-loop
invariant-loop l = l.node.0 < length l.tree.nodes
