use Rattle.std.proofs.lemmas.Result.{IfOk-from_err}
use Rattle.trace_verdict.proofs.VerdictLemmas.{verdict_valid}
use Rattle.row_judgments.proofs.judgments.judge.Goals as goal

pub returns-clause-valid : goal.returns-clause-valid
returns-clause-valid c =
    let valid = verdict_valid c.args.set.now c.args.scale c.args.rows.now c.in_ok-order.verdict c.requires.trace.each c.in_ok-order.ensures.verdict in
    (valid.0, valid.1)

pub processor_order-requires : goal.processor_order-requires
processor_order-requires c = record { trace = c.requires.trace }

pub returns-in_err-by_processor-clause-by_processor : goal.returns-in_err-by_processor-clause-by_processor
returns-in_err-by_processor-clause-by_processor c = IfOk-from_err _ _ c.from_residual.ensures.0

pub returns-in_err-by_processor-clause-by_task : goal.returns-in_err-by_processor-clause-by_task
returns-in_err-by_processor-clause-by_task c = IfOk-from_err _ _ c.from_residual.ensures.0

pub returns-in_err-by_processor-clause-found : goal.returns-in_err-by_processor-clause-found
returns-in_err-by_processor-clause-found c = IfOk-from_err _ _ c.from_residual.ensures.0

pub returns-in_err-by_processor-clause-verdict : goal.returns-in_err-by_processor-clause-verdict
returns-in_err-by_processor-clause-verdict c = IfOk-from_err _ _ c.from_residual.ensures.0

pub returns-in_err-by_processor-clause-valid : goal.returns-in_err-by_processor-clause-valid
returns-in_err-by_processor-clause-valid c = IfOk-from_err _ _ c.from_residual.ensures.0

pub first_unfit-unfit-requires : goal.first_unfit-unfit-requires
first_unfit-unfit-requires c = record { trace = c.requires.trace }

pub judge_tasks-requires-clause-trace : goal.judge_tasks-requires-clause-trace
judge_tasks-requires-clause-trace c = c.requires.trace

pub judge_tasks-requires-clause-unfit : goal.judge_tasks-requires-clause-unfit
judge_tasks-requires-clause-unfit c = c.first_unfit-unfit.ensures

pub judge_tasks-requires-clause-hit : goal.judge_tasks-requires-clause-hit
judge_tasks-requires-clause-hit c = c.in_ok-by_processor.ensures.hit

pub returns-in_err-order-clause-by_processor : goal.returns-in_err-order-clause-by_processor
returns-in_err-order-clause-by_processor c = IfOk-from_err _ _ c.from_residual-in_err-order.ensures.0

pub returns-in_err-order-clause-by_task : goal.returns-in_err-order-clause-by_task
returns-in_err-order-clause-by_task c = IfOk-from_err _ _ c.from_residual-in_err-order.ensures.0

pub returns-in_err-order-clause-found : goal.returns-in_err-order-clause-found
returns-in_err-order-clause-found c = IfOk-from_err _ _ c.from_residual-in_err-order.ensures.0

pub returns-in_err-order-clause-verdict : goal.returns-in_err-order-clause-verdict
returns-in_err-order-clause-verdict c = IfOk-from_err _ _ c.from_residual-in_err-order.ensures.0

pub returns-in_err-order-clause-valid : goal.returns-in_err-order-clause-valid
returns-in_err-order-clause-valid c = IfOk-from_err _ _ c.from_residual-in_err-order.ensures.0

pub returns-clause-by_processor : goal.returns-clause-by_processor
returns-clause-by_processor c = c.in_ok-by_processor.ensures.order

pub returns-clause-by_task : goal.returns-clause-by_task
returns-clause-by_task c = c.in_ok-order.ensures.order

pub returns-clause-found : goal.returns-clause-found
returns-clause-found c = c.in_ok-order.ensures.found

pub returns-clause-verdict : goal.returns-clause-verdict
returns-clause-verdict c = c.in_ok-order.ensures.verdict
