use Rattle.trace_verdict.proofs.tally.Tally.step.Goals as goal

pub see-seen-requires-clause-some : goal.see-seen-requires-clause-some
see-seen-requires-clause-some c = c.requires.pace.some

pub see-seen-requires-clause-base : goal.see-seen-requires-clause-base
see-seen-requires-clause-base c = c.requires.pace.base

pub see-seen-requires-clause-span : goal.see-seen-requires-clause-span
see-seen-requires-clause-span c = c.requires.pace.span

pub see-seen-requires-clause-ended : goal.see-seen-requires-clause-ended
see-seen-requires-clause-ended c = c.requires.pace.ended

pub see-seen-requires-clause-row : goal.see-seen-requires-clause-row
see-seen-requires-clause-row c = c.requires.row
