use Rattle.std.proofs.lemmas.Result.{IfOk-from_err}
use Rattle.event_core.proofs.ticks.Ticks.new.Goals as goal

pub returns-in_err-number : goal.returns-in_err-number
returns-in_err-number c = IfOk-from_err _ _ c.from_residual.ensures.0

pub returns-in_err-nodes : goal.returns-in_err-nodes
returns-in_err-nodes c = IfOk-from_err _ _ c.from_residual-in_err-nodes.ensures.0

pub returns-in_err-no_ticks : goal.returns-in_err-no_ticks
returns-in_err-no_ticks c = IfOk-from_err _ _ c.from_residual-in_err-no_ticks.ensures.0

pub returns-in_err-no_narrow : goal.returns-in_err-no_narrow
returns-in_err-no_narrow c = IfOk-from_err _ _ c.from_residual-in_err-no_narrow.ensures.0

pub returns-in_err-no_bounds : goal.returns-in_err-no_bounds
returns-in_err-no_bounds c = IfOk-from_err _ _ c.from_residual-in_err-no_bounds.ensures.0
