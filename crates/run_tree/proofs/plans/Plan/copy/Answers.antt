use Rattle.std.proofs.lemmas.Result.{IfOk-from_err}
use Rattle.run_tree.proofs.plans.Plan.copy.Goals as goal

pub returns-in_err-copy : goal.returns-in_err-copy
returns-in_err-copy c = IfOk-from_err _ _ c.from_residual.ensures.0

pub returns-in_err-copy-2 : goal.returns-in_err-copy-2
returns-in_err-copy-2 c = IfOk-from_err _ _ c.from_residual-in_err-copy-2.ensures.0
