use Rattle.std.proofs.lemmas.Result.{IfOk-from_err}
use Rattle.trace_verdict.proofs.orders.order_by_task.Goals as goal

pub returns-in_err-entries : goal.returns-in_err-entries
returns-in_err-entries c = IfOk-from_err _ _ c.from_residual.ensures.0

pub returns-in_err-sort : goal.returns-in_err-sort
returns-in_err-sort c = IfOk-from_err _ _ c.from_residual-in_err-sort.ensures.0

pub entries_by-requires : goal.entries_by-requires
entries_by-requires c = c.requires
