use Rattle.part_plans.specs.PartPlans.{ArePartPlans}
use Rattle.part_plans.proofs.parts.plans_of.Given as goal

abbrev pub invariant-loop-c : goal.invariant-loop-c
invariant-loop-c l = ArePartPlans l.whole l.parts.items
