use Rattle.std.proofs.Common.{rules}
use Rattle.run_tree.specs.Tree.{IsPack}
use Rattle.part_plans.proofs.Duals.{dual_within}
use Rattle.part_plans.proofs.roots.above.Goals as goal

pub returns-else-is_member : goal.returns-else-is_member
returns-else-is_member c =
    let is : IsPack c.args.tree.now c.args.n.0 = search rules in
    dual_within c.args.tree.now c.know_lawful.ensures.lawful.tree c.args.n.0 is c.dual.result c.dual.ensures
