use Rattle.std.proofs.Common.{ap, arith, not, option_map, sym, ◌∙◌}
use Rattle.sched_base.specs.declared.rows.NodeId.{NodeId}
use Rattle.tree_select.proofs.ServedLemmas.{node_member}
use Rattle.event_core.proofs.ServingLemmas.{with_node, with_nobody, runs_node}
use Rattle.event_core.proofs.serving.set_place.Goals as goal

pub set_node-requires-clause-node : goal.set_node-requires-clause-node
set_node-requires-clause-node c =
    let i = node_member c.args.tree.now c.requires.tree c.args.p.0 c.in-Some.n.0 c.args.k c.requires.pack c.requires.member
    (ap (option_map (λ (n : NodeId). n.0)) (sym c.in-Some.is) ∙ c.requires.node) in
    let b = i.0 in
    let long = c.requires.nodes in
    omega (arith, b, long)

pub set_node-requires-clause-other : goal.set_node-requires-clause-other
set_node-requires-clause-other c = runs_node c.args.tree.now c.requires.tree c.args.p.0 c.requires.pack c.args.k c.in-Some.n.0 (not c.args.on)
    c.args.dues.now.runs (ap (option_map (λ (n : NodeId). n.0)) (sym c.in-Some.is) ∙ c.requires.node) c.requires.other

pub set_node-requires-clause-fits : goal.set_node-requires-clause-fits
set_node-requires-clause-fits c =
    let i = node_member c.args.tree.now c.requires.tree c.args.p.0 c.in-Some.n.0 c.args.k c.requires.pack c.requires.member
    (ap (option_map (λ (n : NodeId). n.0)) (sym c.in-Some.is) ∙ c.requires.node) in
    let fits = c.requires.fits c.in-Some.n.0 i in
    omega (arith, fits)

pub returns-in-Some-clause-runs : goal.returns-in-Some-clause-runs
returns-in-Some-clause-runs c = c.set_node.ensures.runs ∙ with_node c.args.tree.now c.requires.tree c.args.p.0 c.requires.pack c.args.k c.in-Some.n.0
    c.args.on c.args.dues.now.runs (ap (option_map (λ (n : NodeId). n.0)) (sym c.in-Some.is) ∙ c.requires.node)

pub returns-in_default-clause-runs : goal.returns-in_default-clause-runs
returns-in_default-clause-runs c = with_nobody c.args.tree.now c.requires.tree c.args.p.0 c.requires.pack c.args.k c.args.on c.args.dues.now.runs
    (ap (option_map (λ (n : NodeId). n.0)) (sym c.in_default.is) ∙ c.requires.node)
