use Rattle.run_tree.proofs.LawfulTrees.{tree_is_lawful}
use Rattle.run_tree.proofs.tree.Tree.of_maker.Goals as goal

pub invariant_of-result : goal.invariant_of-result
invariant_of-result c = tree_is_lawful c.args.made c.requires c.limits.ensures
