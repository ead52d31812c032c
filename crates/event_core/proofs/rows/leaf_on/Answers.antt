use Rattle.event_core.proofs.rows.leaf_on.Goals as goal

pub first_pack-requires-clause-plan : goal.first_pack-requires-clause-plan
first_pack-requires-clause-plan c = c.requires.plan

pub first_pack-requires-clause-pack : goal.first_pack-requires-clause-pack
first_pack-requires-clause-pack c = c.requires.pack c.in-Some.i c.in-Some.is

pub leaf_of_pack-requires-clause-plan : goal.leaf_of_pack-requires-clause-plan
leaf_of_pack-requires-clause-plan c = c.requires.plan

pub leaf_of_pack-requires-clause-pack : goal.leaf_of_pack-requires-clause-pack
leaf_of_pack-requires-clause-pack c = c.first_pack.ensures.pack

pub leaf_of_pack-requires-clause-serves : goal.leaf_of_pack-requires-clause-serves
leaf_of_pack-requires-clause-serves c = c.requires.serves

pub leaf_of_pack-requires-clause-serving : goal.leaf_of_pack-requires-clause-serving
leaf_of_pack-requires-clause-serving c = c.requires.serving
