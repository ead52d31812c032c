use Rattle.std.proofs.Common.{subst, sym}
use Rattle.run_tree.specs.Tree.{IsPack}
use Rattle.run_tree.proofs.TreeLemmas.{first_is_pack}
use Rattle.part_plans.proofs.FirstPacks.{some_level}
use Rattle.part_plans.proofs.first_level.first_pack.Goals as goal

pub pack-requires-clause-level : goal.pack-requires-clause-level
pack-requires-clause-level c = let lawful = c.know_lawful.ensures.lawful in some_level c.args.tree.now lawful.tree lawful.sized.some_processors

pub returns-clause-pack : goal.returns-clause-pack
returns-clause-pack c =
    subst (IsPack c.args.tree.now) (sym c.pack.ensures) (first_is_pack c.args.tree.now c.know_lawful.ensures.lawful.tree c.args.i c.requires)
