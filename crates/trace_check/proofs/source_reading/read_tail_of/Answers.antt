use Rattle.std.proofs.lemmas.Result.{IfOk-from_err, err_from_is_err_and}
use Rattle.trace_check.proofs.RestLemmas.{no_more}
use Rattle.trace_check.proofs.source_reading.read_tail_of.Goals as goal

pub returns-in_err-reaches-clause-read : goal.returns-in_err-reaches-clause-read
returns-in_err-reaches-clause-read g c = IfOk-from_err _ _ c.from_residual.ensures.0

pub returns-in_err-reaches-clause-stops : goal.returns-in_err-reaches-clause-stops
returns-in_err-reaches-clause-stops g c = (let (fault, is, same) = err_from_is_err_and c.from_residual.result c.from_residual.ensures.1 in rw (is, same) tt)

pub returns-in_err-reaches-clause-later : goal.returns-in_err-reaches-clause-later
returns-in_err-reaches-clause-later g c = no_more _

pub read_tail_on-requires-clause-within : goal.read_tail_on-requires-clause-within
read_tail_on-requires-clause-within g c = c.requires.within

pub read_tail_on-requires-clause-small : goal.read_tail_on-requires-clause-small
read_tail_on-requires-clause-small g c = c.requires.small

pub read_tail_on-requires-clause-end : goal.read_tail_on-requires-clause-end
read_tail_on-requires-clause-end g c = c.requires.end

pub returns-in_err-read_tail_on-clause-read : goal.returns-in_err-read_tail_on-clause-read
returns-in_err-read_tail_on-clause-read g c = IfOk-from_err _ _ c.from_residual-in_err-read_tail_on.ensures.0

pub returns-in_err-read_tail_on-clause-later : goal.returns-in_err-read_tail_on-clause-later
returns-in_err-read_tail_on-clause-later g c = c.read_tail_on.ensures.later

pub returns-clause-later : goal.returns-clause-later
returns-clause-later g c = c.read_tail_on.ensures.later
