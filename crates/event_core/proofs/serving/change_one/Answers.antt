use Rattle.std.proofs.Common.{ap, refl, eq-eqb, ◌∙◌}
use Rattle.sched_base.specs.Candidates.{is_at}
use Rattle.event_core.proofs.ServingLemmas.{none_runs, is_over}
use Rattle.event_core.proofs.serving.change_one.Goals as goal

pub set_place-requires-2-clause-other : goal.set_place-requires-2-clause-other
set_place-requires-2-clause-other c = λ j e. none_runs c.args.tree.now c.requires.tree c.args.p.0 c.requires.pack c.args.was c.args.dues.now.runs
    c.set_place.new.dues.runs j c.requires.nodes c.requires.before (c.requires.after j e) c.requires.runs c.set_place.ensures.runs

pub returns-clause-over : goal.returns-clause-over
returns-clause-over c = is_over c.args.tree.now c.requires.tree c.args.p.0 c.requires.pack c.args.was c.args.next.place c.args.dues.now.runs
    c.set_place.new.dues.runs c.set_place-2.new.dues.runs c.requires.nodes c.requires.before c.requires.after c.requires.runs c.set_place.ensures.runs
    c.set_place-2.ensures.runs

pub set_place-requires-clause-tree : goal.set_place-requires-clause-tree
set_place-requires-clause-tree c = c.requires.tree

pub set_place-requires-clause-pack : goal.set_place-requires-clause-pack
set_place-requires-clause-pack c = c.requires.pack

pub set_place-requires-clause-member : goal.set_place-requires-clause-member
set_place-requires-clause-member c = c.requires.before

pub set_place-requires-clause-nodes : goal.set_place-requires-clause-nodes
set_place-requires-clause-nodes c = c.requires.nodes

pub set_place-requires-2-clause-tree : goal.set_place-requires-2-clause-tree
set_place-requires-2-clause-tree c = c.requires.tree

pub set_place-requires-2-clause-pack : goal.set_place-requires-2-clause-pack
set_place-requires-2-clause-pack c = c.requires.pack

pub set_place-requires-2-clause-member : goal.set_place-requires-2-clause-member
set_place-requires-2-clause-member c = c.requires.after

pub returns-clause-tick : goal.returns-clause-tick
returns-clause-tick c = c.set_place-2.ensures.tick ∙ c.set_place.ensures.tick

pub returns-clause-remains : goal.returns-clause-remains
returns-clause-remains c = c.set_place-2.ensures.remains ∙ c.set_place.ensures.remains

pub set_place-requires-clause-node : goal.set_place-requires-clause-node
set_place-requires-clause-node c = c.requires.before_at

pub set_place-requires-2-clause-node : goal.set_place-requires-2-clause-node
set_place-requires-2-clause-node c = c.requires.after_at

pub dry_of-requires-clause-tree : goal.dry_of-requires-clause-tree
dry_of-requires-clause-tree c = c.requires.tree

pub dry_of-requires-clause-pack : goal.dry_of-requires-clause-pack
dry_of-requires-clause-pack c = c.requires.pack

pub dry_of-requires-clause-member : goal.dry_of-requires-clause-member
dry_of-requires-clause-member c = c.requires.after

pub dry_of-requires-clause-node : goal.dry_of-requires-clause-node
dry_of-requires-clause-node c = c.requires.after_at

pub dry_of-requires-clause-runs : goal.dry_of-requires-clause-runs
dry_of-requires-clause-runs c = λ j e.
    let over = is_over c.args.tree.now c.requires.tree c.args.p.0 c.requires.pack c.args.was c.args.next.place c.args.dues.now.runs
    c.set_place.new.dues.runs c.set_place-2.new.dues.runs c.requires.nodes c.requires.before c.requires.after c.requires.runs c.set_place.ensures.runs
    c.set_place-2.ensures.runs in
    over.each j (c.requires.after j e) ∙ ap (λ o. is_at o j) e ∙ eq-eqb j j refl
