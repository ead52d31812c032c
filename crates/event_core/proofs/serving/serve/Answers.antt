use Rattle.std.proofs.Common.{◌∙◌}
use Rattle.tree_select.specs.Selected.{candidates}
use Rattle.event_core.proofs.ServingLemmas.{agree_still, member_of}
use Rattle.event_core.proofs.serving.serve.Goals as goal

pub hand_over_in-next-requires-clause-was : goal.hand_over_in-next-requires-clause-was
hand_over_in-next-requires-clause-was c = c.requires.was

pub hand_over_in-next-requires-clause-within : goal.hand_over_in-next-requires-clause-within
hand_over_in-next-requires-clause-within c = c.requires.before

pub hand_over_in-next-requires-clause-led : goal.hand_over_in-next-requires-clause-led
hand_over_in-next-requires-clause-led c = c.requires.led

pub change_if-dry-requires-clause-before : goal.change_if-dry-requires-clause-before
change_if-dry-requires-clause-before c = c.requires.before

pub change_if-dry-requires-clause-after : goal.change_if-dry-requires-clause-after
change_if-dry-requires-clause-after c = c.hand_over_in-next.ensures.within

pub change_if-dry-requires-clause-fits : goal.change_if-dry-requires-clause-fits
change_if-dry-requires-clause-fits c = c.requires.fits

pub change_if-dry-requires-clause-runs : goal.change_if-dry-requires-clause-runs
change_if-dry-requires-clause-runs c = λ j l. c.requires.agree _ (member_of c.args.tree.now c.requires.tree c.args.p.0 c.requires.pack j l) ∙ c.requires.was j l

pub returns-clause-agree : goal.returns-clause-agree
returns-clause-agree c = agree_still c.args.tree.now c.requires.tree c.args.p.0 c.requires.pack c.hand_over_in-next.result.place c.args.runs.now
    c.hand_over_in-next.new.runs c.args.dues.now.runs c.change_if-dry.new.dues.runs c.change_if-dry.ensures.over c.requires.agree
    c.hand_over_in-next.ensures.now c.hand_over_in-next.ensures.others

pub returns-clause-served : goal.returns-clause-served
returns-clause-served c = λ ends ready served. c.hand_over_in-next.ensures.served c.args.dues.now.remains ends (c.first_ready-chosen.ensures.earliest
    (candidates c.args.tree.now c.args.dues.now.remains ends c.args.p.0) ready) served

pub returns-clause-now : goal.returns-clause-now
returns-clause-now c = c.hand_over_in-next.ensures.now

pub returns-clause-within : goal.returns-clause-within
returns-clause-within c = c.hand_over_in-next.ensures.within

pub returns-clause-led : goal.returns-clause-led
returns-clause-led c = c.hand_over_in-next.ensures.led

pub returns-clause-others : goal.returns-clause-others
returns-clause-others c = c.hand_over_in-next.ensures.others

pub returns-clause-own : goal.returns-clause-own
returns-clause-own c = c.hand_over_in-next.ensures.own

pub returns-clause-unmarked : goal.returns-clause-unmarked
returns-clause-unmarked c = c.hand_over_in-next.ensures.unmarked

pub returns-clause-unchanged : goal.returns-clause-unchanged
returns-clause-unchanged c = c.hand_over_in-next.ensures.unchanged

pub returns-clause-marks : goal.returns-clause-marks
returns-clause-marks c = c.hand_over_in-next.ensures.marks

pub returns-clause-nodes : goal.returns-clause-nodes
returns-clause-nodes c = c.change_if-dry.ensures.over.long

pub returns-clause-tick : goal.returns-clause-tick
returns-clause-tick c = c.change_if-dry.ensures.tick

pub returns-clause-remains : goal.returns-clause-remains
returns-clause-remains c = c.change_if-dry.ensures.remains

pub returns-clause-rest : goal.returns-clause-rest
returns-clause-rest c = c.change_if-dry.ensures.over.rest

pub hand_over_in-next-requires-clause-tree : goal.hand_over_in-next-requires-clause-tree
hand_over_in-next-requires-clause-tree c = c.requires.tree

pub hand_over_in-next-requires-clause-pack : goal.hand_over_in-next-requires-clause-pack
hand_over_in-next-requires-clause-pack c = c.requires.pack

pub hand_over_in-next-requires-clause-stale : goal.hand_over_in-next-requires-clause-stale
hand_over_in-next-requires-clause-stale c = c.requires.stale

pub hand_over_in-next-requires-clause-runs : goal.hand_over_in-next-requires-clause-runs
hand_over_in-next-requires-clause-runs c = c.requires.runs

pub change_if-dry-requires-clause-tree : goal.change_if-dry-requires-clause-tree
change_if-dry-requires-clause-tree c = c.requires.tree

pub change_if-dry-requires-clause-pack : goal.change_if-dry-requires-clause-pack
change_if-dry-requires-clause-pack c = c.requires.pack

pub change_if-dry-requires-clause-nodes : goal.change_if-dry-requires-clause-nodes
change_if-dry-requires-clause-nodes c = c.requires.nodes

pub change_if-dry-requires-clause-before_at : goal.change_if-dry-requires-clause-before_at
change_if-dry-requires-clause-before_at c = c.hand_over_in-next.ensures.before

pub change_if-dry-requires-clause-after_at : goal.change_if-dry-requires-clause-after_at
change_if-dry-requires-clause-after_at c = c.hand_over_in-next.ensures.node

pub returns-clause-dry : goal.returns-clause-dry
returns-clause-dry c = c.change_if-dry.ensures.dry
