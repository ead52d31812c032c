use Rattle.std.proofs.lemmas.Result.{IfOk-from_err}
use Rattle.sched_edges.proofs.test_gates.ListGate.new.Goals as goal

pub returns-in_err-with_capacity-clause-ran : goal.returns-in_err-with_capacity-clause-ran
returns-in_err-with_capacity-clause-ran c = IfOk-from_err _ _ c.from_residual.ensures.0

pub returns-in_err-with_capacity-clause-room : goal.returns-in_err-with_capacity-clause-room
returns-in_err-with_capacity-clause-room c = IfOk-from_err _ _ c.from_residual.ensures.0

pub returns-in_err-with_capacity-clause-fails : goal.returns-in_err-with_capacity-clause-fails
returns-in_err-with_capacity-clause-fails c = IfOk-from_err _ _ c.from_residual.ensures.0

pub returns-in_err-with_capacity-clause-calls : goal.returns-in_err-with_capacity-clause-calls
returns-in_err-with_capacity-clause-calls c = IfOk-from_err _ _ c.from_residual.ensures.0

pub returns-in_err-with_capacity-clause-faults : goal.returns-in_err-with_capacity-clause-faults
returns-in_err-with_capacity-clause-faults c = IfOk-from_err _ _ c.from_residual.ensures.0

pub returns-in_err-from_slice-clause-ran : goal.returns-in_err-from_slice-clause-ran
returns-in_err-from_slice-clause-ran c = IfOk-from_err _ _ c.from_residual-in_err-from_slice.ensures.0

pub returns-in_err-from_slice-clause-room : goal.returns-in_err-from_slice-clause-room
returns-in_err-from_slice-clause-room c = IfOk-from_err _ _ c.from_residual-in_err-from_slice.ensures.0

pub returns-in_err-from_slice-clause-fails : goal.returns-in_err-from_slice-clause-fails
returns-in_err-from_slice-clause-fails c = IfOk-from_err _ _ c.from_residual-in_err-from_slice.ensures.0

pub returns-in_err-from_slice-clause-calls : goal.returns-in_err-from_slice-clause-calls
returns-in_err-from_slice-clause-calls c = IfOk-from_err _ _ c.from_residual-in_err-from_slice.ensures.0

pub returns-in_err-from_slice-clause-faults : goal.returns-in_err-from_slice-clause-faults
returns-in_err-from_slice-clause-faults c = IfOk-from_err _ _ c.from_residual-in_err-from_slice.ensures.0
