use Rattle.std.proofs.Common.{◌+◌, ap, sym, take, ◌∙◌}
use Rattle.run_tree.proofs.MappedLists.{copied_more}
use Rattle.run_tree.proofs.growth.copies.Goals as goal

pub loop-node-preserved : goal.loop-node-preserved
loop-node-preserved c =
    let i = c.loop-node.node-index in
    let nodes = c.deref-node-items.ensures.value in
    copied_more c.deref-node-items.result.now i c.node-item.result _ _ _ c.loop-node-test.true c.node-item.is (c.loop-node.invariant
    ∙ sym (ap (take i) nodes)) c.in_ok-push.ensures.items c.in_ok-copy.ensures
    ∙ ap (take (i + 1)) nodes
