use Rattle.trace_verdict.proofs.walks.walk_all.Goals as goal

pub walk_on-requires-clause-lawful : goal.walk_on-requires-clause-lawful
walk_on-requires-clause-lawful c = c.requires.lawful

pub walk_on-requires-clause-begun : goal.walk_on-requires-clause-begun
walk_on-requires-clause-begun c = c.requires.begun

pub walk_none-requires-clause-lawful : goal.walk_none-requires-clause-lawful
walk_none-requires-clause-lawful c = c.requires.lawful

pub walk_none-requires-clause-begun : goal.walk_none-requires-clause-begun
walk_none-requires-clause-begun c = c.requires.begun
