use Rattle.std.proofs.lemmas.Result.{IfOk-from_err}
use Rattle.sched_edges.proofs.memory.MemSource.new.Goals as goal

pub returns-in_err-from_slice-clause-left : goal.returns-in_err-from_slice-clause-left
returns-in_err-from_slice-clause-left c = IfOk-from_err _ _ c.from_residual.ensures.0

pub returns-in_err-from_slice-clause-fails : goal.returns-in_err-from_slice-clause-fails
returns-in_err-from_slice-clause-fails c = IfOk-from_err _ _ c.from_residual.ensures.0

pub returns-in_err-from_slice-clause-calls : goal.returns-in_err-from_slice-clause-calls
returns-in_err-from_slice-clause-calls c = IfOk-from_err _ _ c.from_residual.ensures.0

pub returns-in_err-from_slice-clause-faults : goal.returns-in_err-from_slice-clause-faults
returns-in_err-from_slice-clause-faults c = IfOk-from_err _ _ c.from_residual.ensures.0

pub returns-in_err-from_slice-2-clause-left : goal.returns-in_err-from_slice-2-clause-left
returns-in_err-from_slice-2-clause-left c = IfOk-from_err _ _ c.from_residual-in_err-from_slice-2.ensures.0

pub returns-in_err-from_slice-2-clause-fails : goal.returns-in_err-from_slice-2-clause-fails
returns-in_err-from_slice-2-clause-fails c = IfOk-from_err _ _ c.from_residual-in_err-from_slice-2.ensures.0

pub returns-in_err-from_slice-2-clause-calls : goal.returns-in_err-from_slice-2-clause-calls
returns-in_err-from_slice-2-clause-calls c = IfOk-from_err _ _ c.from_residual-in_err-from_slice-2.ensures.0

pub returns-in_err-from_slice-2-clause-faults : goal.returns-in_err-from_slice-2-clause-faults
returns-in_err-from_slice-2-clause-faults c = IfOk-from_err _ _ c.from_residual-in_err-from_slice-2.ensures.0
