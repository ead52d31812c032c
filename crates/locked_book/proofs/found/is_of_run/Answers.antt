use Rattle.std.proofs.Common.{◌≡◌, Bool, true, false, not, sym, ◌∙◌}
use Rattle.locked_book.proofs.PlanLemmas.{same_plan}
use Rattle.locked_book.proofs.found.is_of_run.Goals as goal

pub returns-clause-plan : goal.returns-clause-plan
returns-clause-plan g c = same_plan c.args.book.now.plan c.args.plan.now c.plan-of_run.ensures.lawful c.know_lawful.ensures.lawful
    c.plan-of_run.ensures.compiled c.requires.agreed.compiled (c.plan-of_run.ensures.set ∙ sym c.requires.agreed.set_is)

pub returns-clause-lawful : goal.returns-clause-lawful
returns-clause-lawful g c = c.plan-of_run.ensures.lawful

pub returns-clause-lanes : goal.returns-clause-lanes
returns-clause-lanes g c = c.plan-of_run.ensures.lanes

not_both : (b : Bool) → not b ≡ true → b ≡ true → ⊥
not_both true other is = let e : false ≡ true = other in absurd (cc)
not_both false _ is = let e : false ≡ true = is in absurd (cc)

pub returns-clause-open : goal.returns-clause-open
returns-clause-open g c still dismissed = not_both c.dismissed.result still (c.dismissed.ensures.value.1 dismissed)
