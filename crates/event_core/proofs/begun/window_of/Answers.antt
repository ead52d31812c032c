use Rattle.std.proofs.Common.{arith}
use Rattle.event_core.proofs.WindowsOfCalendar.{window_fits, window_open}
use Rattle.event_core.proofs.begun.window_of.Goals as goal

pub overflow_sub-end : goal.overflow_sub-end
overflow_sub-end c =
    let least = window_open c.args.plan.now c.args.calendar.now c.requires.plan c.requires.calendar c.args.n.0 c.requires.member in
    let begin = c.window-begin.ensures.begin in
    let end = c.window-begin.ensures.end in
    omega (arith, least, begin, end)

pub budget_of-requires-clause-units : goal.budget_of-requires-clause-units
budget_of-requires-clause-units c =
    let fits = window_fits c.args.plan.now c.args.calendar.now c.requires.plan c.requires.calendar c.args.n.0 c.requires.member in
    let begin = c.window-begin.ensures.begin in
    let end = c.window-begin.ensures.end in
    omega (arith, fits, begin, end)
