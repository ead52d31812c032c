use Rattle.std.proofs.lemmas.Bool.{false≢true}
use Rattle.std.proofs.Common.{arith}
use Rattle.trace_verdict.specs.Supplied.{entry_for}
use Rattle.trace_verdict.proofs.SuppliedLemmas.{past_row}
use Rattle.trace_verdict.proofs.walks.Walk.step.Goals as goal

pub returns-clause-past : goal.returns-clause-past
returns-clause-past c = λ t place.
    past_row c.args.periods.now (entry_for c.args.task c.args.row.now place) c.args.self.now c.pass.new.self c.pass.result t c.pass.ensures.due
    (c.pass.ensures.stands t) (c.pass.ensures.tick t) (c.pass.ensures.done t) (omega arith) (omega arith)

pub returns-then-ne-clause-key : goal.returns-then-ne-clause-key
returns-then-ne-clause-key c = λ t. absurd (false≢true t)

pub returns-then-ne-clause-row : goal.returns-then-ne-clause-row
returns-then-ne-clause-row c = λ t. absurd (false≢true t)

pub returns-then-ne-clause-past : goal.returns-then-ne-clause-past
returns-then-ne-clause-past c = λ t. absurd (false≢true t)

pub returns-then-row-self-clause-key : goal.returns-then-row-self-clause-key
returns-then-row-self-clause-key c = λ t. absurd (false≢true t)

pub returns-then-row-self-clause-row : goal.returns-then-row-self-clause-row
returns-then-row-self-clause-row c = λ t. absurd (false≢true t)

pub returns-then-row-self-clause-past : goal.returns-then-row-self-clause-past
returns-then-row-self-clause-past c = λ t. absurd (false≢true t)

pub pass-requires-clause-lawful : goal.pass-requires-clause-lawful
pass-requires-clause-lawful c = c.requires.lawful

pub pass-requires-clause-stands : goal.pass-requires-clause-stands
pass-requires-clause-stands c = c.requires.stands

pub returns-then-ne-clause-tick : goal.returns-then-ne-clause-tick
returns-then-ne-clause-tick c = λ t. absurd (false≢true t)

pub returns-then-row-self-clause-tick : goal.returns-then-row-self-clause-tick
returns-then-row-self-clause-tick c = λ t. absurd (false≢true t)

pub returns-clause-tick : goal.returns-clause-tick
returns-clause-tick c = λ t. c.pass.ensures.tick t
