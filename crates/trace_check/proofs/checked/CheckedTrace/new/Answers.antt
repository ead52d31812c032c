use Rattle.std.proofs.lemmas.Result.{IfOk-from_err}
use Rattle.trace_check.proofs.checked.CheckedTrace.new.Goals as goal

pub of-requires-clause-trace : goal.of-requires-clause-trace
of-requires-clause-trace c = c.requires

pub of-requires-clause-told : goal.of-requires-clause-told
of-requires-clause-told c = c.in_ok-judged.ensures.found

pub of-requires-clause-all : goal.of-requires-clause-all
of-requires-clause-all c = c.in_ok-judged.ensures.all

pub of-requires-clause-verdict : goal.of-requires-clause-verdict
of-requires-clause-verdict c = c.in_ok-judged.ensures.verdict

pub returns-in_err-judged : goal.returns-in_err-judged
returns-in_err-judged c = IfOk-from_err _ _ c.from_residual.ensures.0

pub judge_rows-requires : goal.judge_rows-requires
judge_rows-requires c = record { trace = c.requires }
