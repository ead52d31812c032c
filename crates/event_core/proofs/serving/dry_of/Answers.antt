use Rattle.std.proofs.Common.{ap, arith, option_map, sym, true, ◌∙◌}
use Rattle.sched_base.specs.declared.rows.NodeId.{NodeId}
use Rattle.tree_select.proofs.ServedLemmas.{node_member}
use Rattle.event_core.proofs.ServingLemmas.{dry_node, dry_nobody, runs_node}
use Rattle.event_core.proofs.serving.dry_of.Goals as goal

pub dry-requires-clause-node : goal.dry-requires-clause-node
dry-requires-clause-node c =
    let i = node_member c.args.tree.now c.requires.tree c.args.p.0 c.in-Some.n.0 c.args.k c.requires.pack c.requires.member
    (ap (option_map (λ (n : NodeId). n.0)) (sym c.in-Some.is) ∙ c.requires.node) in
    let b = i.0 in
    let long = c.requires.nodes in
    omega (arith, b, long)

pub dry-requires-clause-runs : goal.dry-requires-clause-runs
dry-requires-clause-runs c = runs_node c.args.tree.now c.requires.tree c.args.p.0 c.requires.pack c.args.k c.in-Some.n.0 true c.args.dues.now.runs
    (ap (option_map (λ (n : NodeId). n.0)) (sym c.in-Some.is) ∙ c.requires.node) c.requires.runs

pub returns-in-Some : goal.returns-in-Some
returns-in-Some c = c.dry.ensures.value ∙ dry_node c.args.tree.now c.requires.tree c.args.p.0 c.requires.pack c.args.dues.now c.args.k c.in-Some.n.0
    (ap (option_map (λ (n : NodeId). n.0)) (sym c.in-Some.is) ∙ c.requires.node)

pub returns-in-None : goal.returns-in-None
returns-in-None c = dry_nobody c.args.tree.now c.requires.tree c.args.p.0 c.requires.pack c.args.dues.now c.args.k (ap (option_map (λ (n : NodeId). n.0))
    (sym c.in-None.is) ∙ c.requires.node)
