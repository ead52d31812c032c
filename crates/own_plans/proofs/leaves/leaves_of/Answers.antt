use Rattle.std.proofs.lemmas.Result.{IfOk-from_err}
use Rattle.own_plans.proofs.leaves.leaves_of.Goals as goal

pub returns-in_err-leaves-clause-long : goal.returns-in_err-leaves-clause-long
returns-in_err-leaves-clause-long c = IfOk-from_err _ _ c.from_residual.ensures.0

pub returns-in_err-leaves-clause-leaves : goal.returns-in_err-leaves-clause-leaves
returns-in_err-leaves-clause-leaves c = IfOk-from_err _ _ c.from_residual.ensures.0
