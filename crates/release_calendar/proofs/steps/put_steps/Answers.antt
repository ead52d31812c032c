use Rattle.std.proofs.Common.{ℕ, get_or, subst, sym, arith, inl, inr, ◌∙◌}
use Rattle.std.proofs.Math.ListN.{set}
use Rattle.std.proofs.lemmas.Bool.{cases_eq}
use Rattle.run_tree.specs.Plans.{boundary_of}
use Rattle.release_calendar.specs.Calendars.{IsStep}
use Rattle.release_calendar.proofs.OrderLemmas.{same_at, other_at}
use Rattle.release_calendar.proofs.steps.put_steps.Goals as goal

pub loop-x-preserved : goal.loop-x-preserved
loop-x-preserved c = λ y l.
    let x = c.loop-x.x in
    let step = c.step_of.result in
    let long = c.loop-x.auto.steps in
    elim (cases_eq y x) [
      | inl same ↦ subst (λ (z : ℕ). IsStep (boundary_of c.args.plan.now z) (get_or (set c.loop-x.steps x step) z 0)) (sym same)
          (subst (λ (s : ℕ). IsStep (boundary_of c.args.plan.now x) s) (sym (same_at c.loop-x.steps x step (omega (arith, long, c.loop-x-test.true))))
          c.step_of.ensures)
      | inr ne ↦ subst (λ (s : ℕ). IsStep (boundary_of c.args.plan.now y) s) (sym (other_at c.loop-x.steps x y step ne))
          (c.loop-x.invariant y (omega (arith, l, ne)))
    ]

pub returns : goal.returns
returns c =
    let long = c.requires.long in
    let past = c.loop-x-test.false in
    let most = c.loop-x.auto.x-end in
    record { long = c.loop-x.auto.steps ∙ long; all = λ x l. c.loop-x.invariant x (omega (arith, l, long, past, most)) }
