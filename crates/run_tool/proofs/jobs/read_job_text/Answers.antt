use Rattle.std.proofs.lemmas.Result.{IfOk-from_err}
use Rattle.mode_switch.proofs.RunLemmas.{told_fault}
use Rattle.run_tool.proofs.JobInputLemmas.{bad_line}
use Rattle.run_tool.proofs.jobs.read_job_text.Goals as goal

pub returns-in_err-text-clause-read : goal.returns-in_err-text-clause-read
returns-in_err-text-clause-read c = IfOk-from_err _ _ c.from_residual.ensures.0

pub returns-in_err-text-clause-refused : goal.returns-in_err-text-clause-refused
returns-in_err-text-clause-refused c =
    told_fault _ _ _ c.from_residual.ensures.1 (bad_line c.args.bytes.now c.in_err-text.field-0.0 c.in_err-text.ensures.fault)

pub read_job_set-requires-clause-few : goal.read_job_set-requires-clause-few
read_job_set-requires-clause-few c = c.requires

pub read_job_set-requires-clause-text : goal.read_job_set-requires-clause-text
read_job_set-requires-clause-text c = c.in_ok-text.ensures.text

pub read_job_set-requires-clause-within : goal.read_job_set-requires-clause-within
read_job_set-requires-clause-within c = c.in_ok-text.ensures.within

pub returns-in_err-set-clause-read : goal.returns-in_err-set-clause-read
returns-in_err-set-clause-read c = IfOk-from_err _ _ c.from_residual-in_err-set.ensures.0

pub returns-in_err-set-clause-refused : goal.returns-in_err-set-clause-refused
returns-in_err-set-clause-refused c = told_fault _ _ _ c.from_residual-in_err-set.ensures.1 c.in_err-set.ensures.refused

pub returns-clause-read : goal.returns-clause-read
returns-clause-read c = c.in_ok-set.ensures.read
