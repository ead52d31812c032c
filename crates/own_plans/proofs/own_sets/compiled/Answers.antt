use Rattle.std.proofs.lemmas.Result.{IfOk-from_err}
use Rattle.own_plans.proofs.own_sets.compiled.Goals as goal

pub returns-in_err-set : goal.returns-in_err-set
returns-in_err-set c = IfOk-from_err _ _ c.from_residual.ensures.0
