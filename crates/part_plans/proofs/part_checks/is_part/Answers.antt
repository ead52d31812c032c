use Rattle.std.proofs.Common.{◌≡◌, ap, arith, below_more, length}
use Rattle.run_tree.specs.Tree.{Tree}
use Rattle.part_plans.specs.Likeness.{IsNodeLike}
use Rattle.part_plans.proofs.PartLemmas.{part_from}
use Rattle.part_plans.proofs.part_checks.is_part.Goals as goal

pub loop-n-preserved : goal.loop-n-preserved
loop-n-preserved c =
    below_more (IsNodeLike c.args.whole.now c.args.own.now c.args.onto.now c.args.factor) c.loop-n.n c.loop-n.invariant
    (c.is_node_like.ensures c.if-not-is_node_like.false)

pub returns-clause-part : goal.returns-clause-part
returns-clause-part c told =
    let nodes : length c.tree.result.now.nodes ≡ length c.args.own.now.tree.nodes = ap (λ (t : Tree). length t.nodes) c.tree.ensures.value in
    part_from c.args.whole.now c.args.own.now c.args.onto.now c.args.factor c.know_lawful.ensures.lawful c.requires.scale c.requires.horizon
    (λ n l. c.loop-n.invariant n (let all = c.nodes-n-end.ensures.value in let done = c.loop-n-test.false in omega (arith, l, nodes, all, done)))
