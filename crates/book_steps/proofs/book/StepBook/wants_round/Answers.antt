use Rattle.std.proofs.Common.{arith}
use Rattle.book_machine.proofs.Lanes.{least_le}
use Rattle.book_steps.proofs.book.StepBook.wants_round.Goals as goal

pub overflow_sub-posted : goal.overflow_sub-posted
overflow_sub-posted c =
    let within = rw (← c.self.view_is) at c.requires.lane in
    let low = least_le c.self.inside.state.lanes c.args.p within in
    let posted = c.posted-posted.ensures in
    let least = c.least.ensures in
    omega (arith, low, posted, least)

pub posted-posted-requires : goal.posted-posted-requires
posted-posted-requires c = rw (← c.self.view_is) at c.requires.lane

pub returns-then-posted-least-clause-held : goal.returns-then-posted-least-clause-held
returns-then-posted-least-clause-held c = rw (← c.self.view_is) (c.self.invariant.pending.kept.posted c.args.p)

pub returns-else-posted-least-clause-held : goal.returns-else-posted-least-clause-held
returns-else-posted-least-clause-held c = rw (← c.self.view_is) (c.self.invariant.pending.kept.posted c.args.p)
