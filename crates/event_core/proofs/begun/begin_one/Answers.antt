use Rattle.std.proofs.Common.{arith}
use Rattle.event_core.proofs.TurnedLemmas.{end_near}
use Rattle.event_core.proofs.begun.begin_one.Goals as goal

pub window_of-due-requires-clause-plan : goal.window_of-due-requires-clause-plan
window_of-due-requires-clause-plan c = c.requires.plan

pub window_of-due-requires-clause-calendar : goal.window_of-due-requires-clause-calendar
window_of-due-requires-clause-calendar c = c.requires.calendar

pub window_of-due-requires-clause-member : goal.window_of-due-requires-clause-member
window_of-due-requires-clause-member c = c.requires.member

pub home_of-place-requires-clause-plan : goal.home_of-place-requires-clause-plan
home_of-place-requires-clause-plan c = c.requires.plan

pub home_of-place-requires-clause-member : goal.home_of-place-requires-clause-member
home_of-place-requires-clause-member c = c.requires.member

pub give-requires-clause-node : goal.give-requires-clause-node
give-requires-clause-node c = let b = c.requires.member.0 in let long = c.requires.nodes in omega (arith, b, long)

pub put_end-requires-clause-ready : goal.put_end-requires-clause-ready
put_end-requires-clause-ready c = let b = c.home_of-place.ensures.within in let long = c.requires.ready in omega (arith, b, long)

pub put_end-requires-clause-stale : goal.put_end-requires-clause-stale
put_end-requires-clause-stale c = let b = c.home_of-place.ensures.within in let long = c.requires.stale in omega (arith, b, long)

pub put_end-requires-clause-end : goal.put_end-requires-clause-end
put_end-requires-clause-end c =
    let near = end_near c.args.plan.now c.requires.plan c.args.calendar.now c.requires.calendar c.args.n.0 c.requires.member in
    let e = c.window_of-due.ensures.end in
    omega (arith, near, e)

pub returns-clause-tick : goal.returns-clause-tick
returns-clause-tick c = c.give.ensures.tick

pub returns-clause-runs : goal.returns-clause-runs
returns-clause-runs c = c.give.ensures.runs
