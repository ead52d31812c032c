use Rattle.std.proofs.lemmas.Result.{IfOk-from_err}
use Rattle.job_vm.proofs.programs.read_line.Goals as goal

pub returns-in_err-begin-in-Some-clause-read : goal.returns-in_err-begin-in-Some-clause-read
returns-in_err-begin-in-Some-clause-read c = IfOk-from_err _ _ c.from_residual.ensures.0

pub returns-in_err-lengthen-in-Some-instruction_of-clause-read : goal.returns-in_err-lengthen-in-Some-instruction_of-clause-read
returns-in_err-lengthen-in-Some-instruction_of-clause-read c = IfOk-from_err _ _ c.from_residual-in_err-lengthen-in-Some-instruction_of.ensures.0
