use Rattle.std.proofs.Common.{arith}
use Rattle.book_steps.proofs.SourceLemmas.{IsRepeating-wrapped, some_ends}
use Rattle.book_steps.proofs.source.wrapped.Goals as goal

pub returns-clause-again : goal.returns-clause-again
returns-clause-again c =
    IsRepeating-wrapped c.args.plan.now c.know_lawful.ensures.lawful c.args.tick c.args.ends.now c.args.shown.now c.args.again c.requires.again c.requires.early
    (let off = c.if-again-ends.false in omega (arith, off))

pub returns-then-again-ends-clause-again : goal.returns-then-again-ends-clause-again
returns-then-again-ends-clause-again c = c.requires.again

pub returns-then-again-ends-clause-within : goal.returns-then-again-ends-clause-within
returns-then-again-ends-clause-within c = c.if-again-ends.true

pub returns-clause-within : goal.returns-clause-within
returns-clause-within c = some_ends c.args.plan.now c.know_lawful.ensures.lawful c.args.tick c.args.ends.now c.args.shown.now c.args.again c.requires.again
    c.requires.early
