use Rattle.trace_verdict.proofs.tally.Tally.new.Goals as goal

pub see-seen-requires-clause-some : goal.see-seen-requires-clause-some
see-seen-requires-clause-some c = c.requires.some

pub see-seen-requires-clause-row : goal.see-seen-requires-clause-row
see-seen-requires-clause-row c = c.requires.row
