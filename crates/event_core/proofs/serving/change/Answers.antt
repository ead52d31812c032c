use Rattle.std.proofs.Common.{ap, arith, false, option_map, refl, sym, ◌∙◌}
use Rattle.sched_base.specs.declared.rows.NodeId.{NodeId}
use Rattle.tree_select.proofs.ServedLemmas.{node_member}
use Rattle.event_core.specs.Serving.{with_place}
use Rattle.event_core.proofs.ServingLemmas.{dry_still, is_over, other_rests, runs_at_node, with_nodes}
use Rattle.event_core.proofs.serving.change.Goals as goal

pub hand_over-requires-clause-runs : goal.hand_over-requires-clause-runs
hand_over-requires-clause-runs c =
    let before = ap (option_map (λ (n : NodeId). n.0)) (sym c.in-Some.is) ∙ c.requires.before_at in
    runs_at_node c.args.tree.now c.requires.tree c.args.p.0 c.requires.pack c.args.was c.in-Some.before.0 c.args.dues.now.runs before c.requires.before
    c.requires.runs

pub hand_over-requires-clause-rests : goal.hand_over-requires-clause-rests
hand_over-requires-clause-rests c =
    let after = ap (option_map (λ (n : NodeId). n.0)) (sym c.in-Some-node.is) ∙ c.requires.after_at in
    other_rests c.args.tree.now c.requires.tree c.args.p.0 c.requires.pack c.args.was c.args.next.place c.in-Some-node.after.0 c.args.dues.now.runs
    c.requires.other after c.requires.after c.requires.runs

pub hand_over-requires-clause-fits : goal.hand_over-requires-clause-fits
hand_over-requires-clause-fits c =
    let after = ap (option_map (λ (n : NodeId). n.0)) (sym c.in-Some-node.is) ∙ c.requires.after_at in
    let fits = c.requires.fits c.in-Some-node.after.0 (node_member c.args.tree.now c.requires.tree c.args.p.0 c.in-Some-node.after.0 c.args.next.place
    c.requires.pack c.requires.after after) in
    omega (arith, fits)

pub returns-clause-over : goal.returns-clause-over
returns-clause-over c =
    let t = c.args.tree.now in
    let before = ap (option_map (λ (n : NodeId). n.0)) (sym c.in-Some.is) ∙ c.requires.before_at in
    let after = ap (option_map (λ (n : NodeId). n.0)) (sym c.in-Some-node.is) ∙ c.requires.after_at in
    is_over t c.requires.tree c.args.p.0 c.requires.pack c.args.was c.args.next.place c.args.dues.now.runs (with_place t c.args.p.0 c.args.was false
    c.args.dues.now.runs) c.hand_over.new.self.runs
    c.requires.nodes c.requires.before c.requires.after c.requires.runs refl
    (c.hand_over.ensures.runs ∙ with_nodes t c.requires.tree c.args.p.0 c.requires.pack c.args.was c.args.next.place c.in-Some.before.0
    c.in-Some-node.after.0 c.args.dues.now.runs before after)

pub returns-clause-dry : goal.returns-clause-dry
returns-clause-dry c =
    let after = ap (option_map (λ (n : NodeId). n.0)) (sym c.in-Some-node.is) ∙ c.requires.after_at in
    c.hand_over.ensures.dry
    ∙ dry_still c.args.tree.now c.requires.tree c.args.p.0 c.requires.pack c.args.dues.now c.hand_over.new.self c.args.next.place c.in-Some-node.after.0
    c.hand_over.ensures.tick c.hand_over.ensures.remains after

pub returns-clause-tick : goal.returns-clause-tick
returns-clause-tick c = c.hand_over.ensures.tick

pub returns-clause-remains : goal.returns-clause-remains
returns-clause-remains c = c.hand_over.ensures.remains

pub change_one-requires-clause-tree : goal.change_one-requires-clause-tree
change_one-requires-clause-tree c = c.requires.tree

pub change_one-requires-clause-pack : goal.change_one-requires-clause-pack
change_one-requires-clause-pack c = c.requires.pack

pub change_one-requires-clause-before : goal.change_one-requires-clause-before
change_one-requires-clause-before c = c.requires.before

pub change_one-requires-clause-after : goal.change_one-requires-clause-after
change_one-requires-clause-after c = c.requires.after

pub change_one-requires-clause-before_at : goal.change_one-requires-clause-before_at
change_one-requires-clause-before_at c = c.requires.before_at

pub change_one-requires-clause-after_at : goal.change_one-requires-clause-after_at
change_one-requires-clause-after_at c = c.requires.after_at

pub change_one-requires-clause-nodes : goal.change_one-requires-clause-nodes
change_one-requires-clause-nodes c = c.requires.nodes

pub change_one-requires-clause-runs : goal.change_one-requires-clause-runs
change_one-requires-clause-runs c = c.requires.runs

pub change_one-requires-clause-fits : goal.change_one-requires-clause-fits
change_one-requires-clause-fits c = c.requires.fits

pub returns-2-clause-tick : goal.returns-2-clause-tick
returns-2-clause-tick c = c.change_one.ensures.tick

pub returns-2-clause-remains : goal.returns-2-clause-remains
returns-2-clause-remains c = c.change_one.ensures.remains

pub returns-2-clause-over : goal.returns-2-clause-over
returns-2-clause-over c = c.change_one.ensures.over

pub returns-2-clause-dry : goal.returns-2-clause-dry
returns-2-clause-dry c = c.change_one.ensures.dry
