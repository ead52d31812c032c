use Rattle.std.proofs.Common.{length, ap, arith}
use Rattle.run_tree.proofs.LawfulTrees.{length-packs_at-le}
use Rattle.run_tree.proofs.tree.Tree.packs.Goals as goal

pub overflow_cast-result : goal.overflow_cast-result
overflow_cast-result c = omega (arith, ap length c.packs_of.ensures, length-packs_at-le c.self.inside.made.tree c.args.level, c.self.invariant.sized.few_nodes)
