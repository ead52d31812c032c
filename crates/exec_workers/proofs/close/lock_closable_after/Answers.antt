use Rattle.exec_workers.proofs.close.lock_closable_after.Goals as goal

pub lock_closable-guard-requires-clause-agreed : goal.lock_closable-guard-requires-clause-agreed
lock_closable-guard-requires-clause-agreed g c = c.requires.agreed

pub lock_closable-guard-requires-clause-lanes : goal.lock_closable-guard-requires-clause-lanes
lock_closable-guard-requires-clause-lanes g c = c.requires.lanes

pub lock_closable-guard-requires-clause-counts : goal.lock_closable-guard-requires-clause-counts
lock_closable-guard-requires-clause-counts g c = c.requires.counts
