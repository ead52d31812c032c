use Rattle.std.proofs.Common.{arith, refl, ap, ◌∙◌}
use Rattle.std.proofs.Math.ListN.{set}
use Rattle.release_calendar.proofs.EndLemmas.{end_near}
use Rattle.release_calendar.proofs.turns.turn_due.Goals as goal

pub end_of-end-requires-clause-plan : goal.end_of-end-requires-clause-plan
end_of-end-requires-clause-plan c = c.requires.plan

pub end_of-end-requires-clause-member : goal.end_of-end-requires-clause-member
end_of-end-requires-clause-member c = c.requires.member

pub end_of-end-requires-clause-at : goal.end_of-end-requires-clause-at
end_of-end-requires-clause-at c = c.requires.at

pub end_of-end-requires-clause-begins : goal.end_of-end-requires-clause-begins
end_of-end-requires-clause-begins c = c.requires.boundary

pub end_of-end-requires-clause-ends : goal.end_of-end-requires-clause-ends
end_of-end-requires-clause-ends c = c.requires.ends

pub end_of-end-requires-clause-known : goal.end_of-end-requires-clause-known
end_of-end-requires-clause-known c = c.requires.known

pub bounds-begins-n : goal.bounds-begins-n
bounds-begins-n c = let b = c.requires.member.0 in let long = c.requires.begins in omega (arith, b, long)

pub bounds-ends-n : goal.bounds-ends-n
bounds-ends-n c = let b = c.requires.member.0 in let long = c.requires.ends in omega (arith, b, long)

pub returns-clause-begins : goal.returns-clause-begins
returns-clause-begins c = refl

pub returns-clause-ends : goal.returns-clause-ends
returns-clause-ends c = ap (set c.args.ends.now c.args.n.0) (c.from.ensures ∙ c.end_of-end.ensures)

pub returns-clause-fits : goal.returns-clause-fits
returns-clause-fits c = let near = end_near c.args.plan.now c.requires.plan c.args.n.0 c.args.at c.requires.member c.requires.at in omega (arith, near)

pub end_of-end-requires-clause-steps : goal.end_of-end-requires-clause-steps
end_of-end-requires-clause-steps c = c.requires.steps
