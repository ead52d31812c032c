use Rattle.event_core.proofs.serving.change_if.Goals as goal

pub change-requires-clause-tree : goal.change-requires-clause-tree
change-requires-clause-tree c = c.requires.tree

pub change-requires-clause-pack : goal.change-requires-clause-pack
change-requires-clause-pack c = c.requires.pack

pub change-requires-clause-before : goal.change-requires-clause-before
change-requires-clause-before c = c.requires.before

pub change-requires-clause-after : goal.change-requires-clause-after
change-requires-clause-after c = c.requires.after

pub change-requires-clause-before_at : goal.change-requires-clause-before_at
change-requires-clause-before_at c = c.requires.before_at

pub change-requires-clause-after_at : goal.change-requires-clause-after_at
change-requires-clause-after_at c = c.requires.after_at

pub change-requires-clause-nodes : goal.change-requires-clause-nodes
change-requires-clause-nodes c = c.requires.nodes

pub change-requires-clause-runs : goal.change-requires-clause-runs
change-requires-clause-runs c = c.requires.runs

pub change-requires-clause-fits : goal.change-requires-clause-fits
change-requires-clause-fits c = c.requires.fits

pub change-requires-clause-other : goal.change-requires-clause-other
change-requires-clause-other c = c.requires.other c.if-next.true

pub dry_of-requires-clause-tree : goal.dry_of-requires-clause-tree
dry_of-requires-clause-tree c = c.requires.tree

pub dry_of-requires-clause-pack : goal.dry_of-requires-clause-pack
dry_of-requires-clause-pack c = c.requires.pack

pub dry_of-requires-clause-member : goal.dry_of-requires-clause-member
dry_of-requires-clause-member c = c.requires.after

pub dry_of-requires-clause-node : goal.dry_of-requires-clause-node
dry_of-requires-clause-node c = c.requires.after_at

pub dry_of-requires-clause-nodes : goal.dry_of-requires-clause-nodes
dry_of-requires-clause-nodes c = c.requires.nodes

pub returns-then-next-clause-tick : goal.returns-then-next-clause-tick
returns-then-next-clause-tick c = c.change.ensures.tick

pub returns-then-next-clause-remains : goal.returns-then-next-clause-remains
returns-then-next-clause-remains c = c.change.ensures.remains

pub returns-then-next-clause-over : goal.returns-then-next-clause-over
returns-then-next-clause-over c = c.change.ensures.over

pub returns-then-next-clause-dry : goal.returns-then-next-clause-dry
returns-then-next-clause-dry c = c.change.ensures.dry
