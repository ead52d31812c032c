use Rattle.std.proofs.Common.{inl, refl, ap}
use Rattle.std.proofs.lemmas.Result.{IfOk-from_err}
use Rattle.mode_switch.proofs.RunLemmas.{told_fault}
use Rattle.pure_commands.specs.declared.refusal.Refusal.{Refusal}
use Rattle.pure_commands.specs.Refusals.{status_of}
use Rattle.pure_commands.proofs.EndLemmas.{keeps_same}
use Rattle.run_tool.specs.Executed.{may_have_called}
use Rattle.run_tool.proofs.DrillEndLemmas.{run_told, run_untold, unrun}
use Rattle.run_tool.proofs.LoadedLemmas.{crew_left}
use Rattle.run_tool.proofs.PartLemmas.{stops_first, ends_drilled}
use Rattle.run_tool.proofs.drill.drill.Goals as goal

pub returns-in_err-plan : goal.returns-in_err-plan
returns-in_err-plan g c = stops_first _ _ c.from_residual.ensures.1 (inl refl, keeps_same _)

pub few_rounds-requires : goal.few_rounds-requires
few_rounds-requires g c = record { few = c.in_ok-plan.ensures.few }

pub returns-in_err-rounds : goal.returns-in_err-rounds
returns-in_err-rounds g c = stops_first _ _ c.from_residual-in_err-rounds.ensures.1 (inl refl, keeps_same _)

pub run_plan-requires-clause-ready : goal.run_plan-requires-clause-ready
run_plan-requires-clause-ready g c κs within = c.requires.ready

pub returns-in_err-executed : goal.returns-in_err-executed
returns-in_err-executed g c =
    ends_drilled _ c.args.number _ _ _ _ _ _ _ (IfOk-from_err _ _ c.from_residual-in_err-executed.ensures.0)
    (told_fault _ _ _ c.from_residual-in_err-executed.ensures.1
    (unrun c.args.number c.in_ok-plan.plan c.in_ok-plan.ensures.plan _ _ _ _ _ c.in_ok-plan.ensures.scale c.in_err-executed.ensures.stops
    (λ e. crew_left _ _ _ _ _ _ _ _ _ _ (c.in_err-executed.ensures.uncalled (ap (λ (x : Refusal). may_have_called (status_of x)) e)))))
    c.run_plan.ensures.back

pub write_judged-requires-clause-plan : goal.write_judged-requires-clause-plan
write_judged-requires-clause-plan g c = c.in_ok-plan.ensures.plan

pub write_judged-requires-clause-scale : goal.write_judged-requires-clause-scale
write_judged-requires-clause-scale g c = c.in_ok-plan.ensures.scale

pub write_judged-requires-clause-rounds : goal.write_judged-requires-clause-rounds
write_judged-requires-clause-rounds g c = c.in_ok-rounds.ensures

pub write_judged-requires-clause-lanes : goal.write_judged-requires-clause-lanes
write_judged-requires-clause-lanes g c = c.in_ok-executed.ensures.lanes

pub write_judged-requires-clause-few : goal.write_judged-requires-clause-few
write_judged-requires-clause-few g c = c.in_ok-executed.ensures.few

pub write_judged-requires-clause-valid : goal.write_judged-requires-clause-valid
write_judged-requires-clause-valid g c = c.in_ok-executed.ensures.ran.valid

pub returns : goal.returns
returns g c =
    ends_drilled _ c.args.number _ _ _ _ _ _ _
    (run_told c.args.number c.in_ok-plan.plan c.in_ok-plan.ensures.plan c.write_judged.result _ _ _ _ c.in_ok-executed.ensures.ran
    c.write_judged.ensures.done)
    (run_untold c.args.number c.in_ok-plan.plan c.in_ok-plan.ensures.plan c.write_judged.result _ _ _ _ _ _ c.in_ok-plan.ensures.scale
    c.in_ok-executed.ensures.ran c.write_judged.ensures.stops)
    c.run_plan.ensures.back
