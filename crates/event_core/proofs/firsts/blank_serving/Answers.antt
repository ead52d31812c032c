use Rattle.std.proofs.lemmas.Result.{IfOk-from_err}
use Rattle.event_core.proofs.firsts.blank_serving.Goals as goal

pub no_ends-requires : goal.no_ends-requires
no_ends-requires c = record { plan = c.requires.plan }

pub returns-in_err-serves : goal.returns-in_err-serves
returns-in_err-serves c = IfOk-from_err c.from_residual.result _ c.from_residual.ensures.0

pub returns-in_err-dry : goal.returns-in_err-dry
returns-in_err-dry c = IfOk-from_err c.from_residual-in_err-dry.result _ c.from_residual-in_err-dry.ensures.0

pub returns-in_err-stale : goal.returns-in_err-stale
returns-in_err-stale c = IfOk-from_err c.from_residual-in_err-stale.result _ c.from_residual-in_err-stale.ensures.0

pub returns-in_err-runs : goal.returns-in_err-runs
returns-in_err-runs c = IfOk-from_err c.from_residual-in_err-runs.result _ c.from_residual-in_err-runs.ensures.0

pub returns-in_err-ready : goal.returns-in_err-ready
returns-in_err-ready c = IfOk-from_err c.from_residual-in_err-ready.result _ c.from_residual-in_err-ready.ensures.0
