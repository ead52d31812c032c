use Rattle.std.proofs.Common.{subst, sym}
use Rattle.part_plans.specs.PartPlans.{ArePartPlans, IsPartPlanOf}
use Rattle.part_plans.proofs.PartLemmas.{one_more}
use Rattle.part_plans.proofs.parts.plans_of.Goals as goal

pub loop-c-preserved : goal.loop-c-preserved
loop-c-preserved c =
    let found : IsPartPlanOf c.args.whole.now c.in-Some.own = rw c.in-Some.is at c.in_ok-own.ensures in
    subst (ArePartPlans c.args.whole.now) (sym c.in_ok-push-in-Some.ensures.items)
    (one_more c.args.whole.now c.loop-c.parts.items c.in-Some.own c.loop-c.invariant found)
