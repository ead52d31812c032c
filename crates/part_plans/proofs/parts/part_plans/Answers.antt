use Rattle.std.proofs.Common.{◌∙◌, ap, length}
use Rattle.std.proofs.lemmas.Result.{IfOk-from_err}
use Rattle.run_tree.specs.Tree.{Tree}
use Rattle.part_plans.proofs.parts.part_plans.Goals as goal

pub returns-in_err-part : goal.returns-in_err-part
returns-in_err-part c = IfOk-from_err _ _ c.from_residual.ensures.0

pub plans_of-requires : goal.plans_of-requires
plans_of-requires c = ap length c.deref.ensures.value ∙ c.in_ok-part.ensures ∙ ap (λ (t : Tree). length t.nodes) c.tree-tree.ensures.value

pub returns-in_err-parts : goal.returns-in_err-parts
returns-in_err-parts c = IfOk-from_err _ _ c.from_residual-in_err-parts.ensures.0

pub returns-in_err-like : goal.returns-in_err-like
returns-in_err-like c = IfOk-from_err _ _ c.from_residual-in_err-like.ensures.0
