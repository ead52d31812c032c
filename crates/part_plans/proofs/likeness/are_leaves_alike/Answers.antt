use Rattle.std.proofs.Common.{◌<◌, length, subst, sym}
use Rattle.std.proofs.lemmas.Bool.{false≢true}
use Rattle.run_tree.specs.Tree.{Tree}
use Rattle.part_plans.proofs.likeness.are_leaves_alike.Goals as goal

pub leaf_of-requires : goal.leaf_of-requires
leaf_of-requires c = subst (λ (t : Tree). c.args.x.0 < length t.nodes) (sym c.tree.ensures.value) c.requires.whole

pub leaf_of-requires-2 : goal.leaf_of-requires-2
leaf_of-requires-2 c = subst (λ (t : Tree). c.args.y.0 < length t.nodes) (sym c.tree-2.ensures.value) c.requires.own

pub returns-in_default : goal.returns-in_default
returns-in_default c = λ told. absurd (false≢true told)
