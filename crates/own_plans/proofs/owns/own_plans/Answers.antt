use Rattle.std.proofs.Common.{[], ◌∷◌, ◌∙◌, ◌<◌, ap, arith, length, length-append, subst, sym}
use Rattle.std.proofs.lemmas.Result.{IfOk-from_err}
use Rattle.run_tree.specs.Schedule.{packs_at}
use Rattle.run_tree.specs.Tree.{Tree}
use Rattle.own_plans.specs.OwnPlans.{IsOwnPlanOf}
use Rattle.own_plans.proofs.OwnLemmas.{AreInTurn, one_more}
use Rattle.own_plans.proofs.owns.own_plans.Goals as goal

pub own_plan-requires : goal.own_plan-requires
own_plan-requires c =
    subst (λ n. c.loop-i.i < n) (c.first_packs-i-end.ensures ∙ ap (λ (t : Tree). length (packs_at t 0)) c.tree-2.ensures.value) c.loop-i-test.true

pub returns-in_err-own : goal.returns-in_err-own
returns-in_err-own c = IfOk-from_err _ _ c.from_residual.ensures.0

pub loop-i-preserved : goal.loop-i-preserved
loop-i-preserved c =
    let found : IsOwnPlanOf c.args.plan.now c.loop-i.i c.in-Some.own = rw c.in-Some.is at c.in_ok-own.ensures in
    let long = c.loop-i.invariant.0 in
    let more = c.in_ok-push-in-Some.ensures.items in (
      (let e = ap length more in let n = length-append c.loop-i.owns.items (c.in-Some.own ∷ []) in omega (arith, e, n, long)),
      subst (AreInTurn c.args.plan.now) (sym more) (one_more c.args.plan.now c.loop-i.owns.items c.in-Some.own c.loop-i.invariant.1
          (subst (λ n. IsOwnPlanOf c.args.plan.now n c.in-Some.own) (sym long) found)),
    )
