use Rattle.std.proofs.Common.{arith}
use Rattle.server_budget.proofs.DueLemmas.{remains_given, given_ahead}
use Rattle.server_budget.proofs.dues.give_at.Goals as goal

pub returns-clause-ahead : goal.returns-clause-ahead
returns-clause-ahead c =
    let b = c.requires.node in
    let long = c.requires.ahead.long in
    given_ahead c.args.tick c.args.runs.now c.args.marks.now c.args.n c.mark_of.result c.requires.ahead (omega (arith, b, long)) c.mark_of.ensures.ahead

pub returns-clause-remains : goal.returns-clause-remains
returns-clause-remains c = remains_given c.args.tick c.args.runs.now c.args.marks.now c.args.n c.mark_of.result c.args.due c.requires.ahead.long
    c.mark_of.ensures.due
