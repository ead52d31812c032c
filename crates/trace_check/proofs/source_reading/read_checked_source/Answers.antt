use Rattle.std.proofs.lemmas.Result.{IfOk-from_err}
use Rattle.trace_check.proofs.source_reading.read_checked_source.Goals as goal

pub read_source-requires : goal.read_source-requires
read_source-requires g c = c.requires

pub returns-in_err-set-clause-trace : goal.returns-in_err-set-clause-trace
returns-in_err-set-clause-trace g c = IfOk-from_err _ _ c.from_residual.ensures.0

pub returns-in_err-new-clause-trace : goal.returns-in_err-new-clause-trace
returns-in_err-new-clause-trace g c = IfOk-from_err _ _ c.from_residual-in_err-new.ensures.0
