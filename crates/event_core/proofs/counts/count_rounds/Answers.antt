use Rattle.std.proofs.lemmas.Result.{IfOk-from_err}
use Rattle.event_core.proofs.counts.count_rounds.Goals as goal

pub returns-in_err-core-clause-count : goal.returns-in_err-core-clause-count
returns-in_err-core-clause-count c = IfOk-from_err c.from_residual.result _ c.from_residual.ensures.0

pub count_from-requires-clause-belongs : goal.count_from-requires-clause-belongs
count_from-requires-clause-belongs c = c.in_ok-core.ensures.1

pub count_from-requires-clause-first : goal.count_from-requires-clause-first
count_from-requires-clause-first c = c.in_ok-core.ensures.0

pub returns-clause-count : goal.returns-clause-count
returns-clause-count c = c.count_from.ensures.count

pub returns-clause-fault : goal.returns-clause-fault
returns-clause-fault c = c.count_from.ensures.fault
