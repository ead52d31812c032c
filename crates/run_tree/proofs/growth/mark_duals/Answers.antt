use Rattle.std.proofs.Common.{◌∙◌}
use Rattle.run_tree.proofs.Duals.{with_duals_step}
use Rattle.run_tree.proofs.growth.mark_duals.Goals as goal

pub loop-i-preserved : goal.loop-i-preserved
loop-i-preserved c = record {
  nodes = with_duals_step c.args.number c.loop-i.i c.head.result.now.kind c.args.level.now c.args.nodes.now.items c.loop-i.nodes.items
      c.mark.new.nodes.items c.index-level-i.result c.loop-i-test.true c.index-level-i.is c.head.ensures.kind c.loop-i.invariant.nodes c.mark.ensures.nodes;
  long = c.mark.ensures.length ∙ c.loop-i.invariant.long;
  capacity = c.mark.ensures.capacity ∙ c.loop-i.invariant.capacity;
}
