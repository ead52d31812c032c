use Rattle.std.proofs.lemmas.Result.{IfOk-from_err}
use Rattle.sched_edges.proofs.test_jobs.FailJob.new.Goals as goal

pub returns-in_err-from_slice-clause-id : goal.returns-in_err-from_slice-clause-id
returns-in_err-from_slice-clause-id c = IfOk-from_err _ _ c.from_residual.ensures.0

pub returns-in_err-from_slice-clause-used : goal.returns-in_err-from_slice-clause-used
returns-in_err-from_slice-clause-used c = IfOk-from_err _ _ c.from_residual.ensures.0

pub returns-in_err-from_slice-clause-fails : goal.returns-in_err-from_slice-clause-fails
returns-in_err-from_slice-clause-fails c = IfOk-from_err _ _ c.from_residual.ensures.0

pub returns-in_err-from_slice-clause-calls : goal.returns-in_err-from_slice-clause-calls
returns-in_err-from_slice-clause-calls c = IfOk-from_err _ _ c.from_residual.ensures.0

pub returns-in_err-from_slice-clause-faults : goal.returns-in_err-from_slice-clause-faults
returns-in_err-from_slice-clause-faults c = IfOk-from_err _ _ c.from_residual.ensures.0
