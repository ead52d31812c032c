use Rattle.std.proofs.Common.{ap, sym, subst, ◌∙◌}
use Rattle.run_tree.specs.Plans.{PlanContents}
use Rattle.plan_rounds.specs.PlanRows.{IsCompiled}
use Rattle.locked_book.proofs.found.is_of_plan.Goals as goal

pub returns-clause-same : goal.returns-clause-same
returns-clause-same g c = λ same. sym c.plan.ensures.value ∙ c.is_same_plan.ensures.0 same

pub returns-clause-agreed : goal.returns-clause-agreed
returns-clause-agreed g c = λ same. record {
  compiled = subst (λ p. IsCompiled p) (sym c.plan.ensures.value ∙ c.is_same_plan.ensures.0 same) c.plan.ensures.compiled;
  set_is = ap (λ (p : PlanContents). p.set) (sym (c.is_same_plan.ensures.0 same) ∙ c.plan.ensures.value) ∙ c.plan.ensures.set;
}
