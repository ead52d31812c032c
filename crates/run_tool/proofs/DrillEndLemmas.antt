-- How a drill ends, as its clauses say it.
use Rattle.std.proofs.Common.{◌≡◌, inl, inr, ℕ, List, Option, Result, Ok, Err, refl, subst}
use Rattle.std.specs.Io.KnownBytes.{Appends}
use Rattle.std.specs.Prelude.{OnOk, IfErr}
use Rattle.std.proofs.lemmas.Result.{IfErr-weaker}
use Rattle.sched_base.specs.Scale.{IsScale}
use Rattle.sched_edges.specs.Causes.{Rose}
use Rattle.sched_edges.specs.Streams.{TookPart}
use Rattle.run_tree.specs.Plans.{PlanContents}
use Rattle.pure_commands.specs.declared.refusal.Refusal.{Refusal}
use Rattle.pure_commands.specs.declared.refusal.Refusal.TheVariants as why
use Rattle.pure_commands.proofs.EndLemmas.{keeps_same}
use Rattle.pure_commands.specs.SetTexts.{plan_of}
use Rattle.run_tool.specs.Drill.{drilled, IsDrill, drill_text}
use Rattle.run_tool.specs.Executions.{Crew, RanAll, usual_window}
use Rattle.run_tool.specs.Executed.{RanDrill, StopsAtDrill, StopsInRun, WroteDrill, StopsAtText}

-- the text was written
pub drill_written : (number scale : ℕ) (out out' : Option (List ℕ)) (text : List ℕ) → IsDrill number scale → text ≡ drill_text number scale
    → Appends out out' text → WroteDrill number scale out out'
drill_written number scale out out' text is same took = (is, subst (λ (t : List ℕ). Appends out out' t) same took)

-- `out` failed
pub drill_unwritten : (number scale : ℕ) (out out' : Option (List ℕ)) (faults faults' : ℕ) (text : List ℕ) → IsDrill number scale
    → text ≡ drill_text number scale → TookPart out out' text → Rose faults faults' → StopsAtText number scale out out' faults faults' why.WriteFault
drill_unwritten number scale out out' faults faults' text is same took rose = (is, subst (λ (t : List ℕ). TookPart out out' t) same took, rose)

module _ (number : ℕ) (p : PlanContents) (plan : p ≡ plan_of (drilled number) p.tree.scale) where
  -- all was run and written
  pub run_told : {T E : Type 0} (result : Result T E) (old new : Crew) (out out' : Option (List ℕ)) → RanAll p old new
      → OnOk result (WroteDrill number p.tree.scale out out') → OnOk result (RanDrill number out out' old new)
  run_told (Ok v) old new out out' ran wrote = (p.tree.scale, wrote.0, wrote.1, subst (λ (q : PlanContents). RanAll q old new) plan ran)
  run_told (Err e) old new out out' ran wrote = tt

  untold : (old new : Crew) (out out' : Option (List ℕ)) (faults faults' : ℕ) (r : Refusal) → IsScale (drilled number).tasks p.tree.scale → RanAll p old new
      → StopsAtText number p.tree.scale out out' faults faults' r → StopsAtDrill number out out' faults faults' old new r
  untold old new out out' faults faults' why.WriteFault is_scale ran stops =
      (p.tree.scale, stops.0, stops.1, stops.2, subst (λ (q : PlanContents). RanAll q old new) plan ran)
  untold old new out out' faults faults' why.NoMemory is_scale ran keeps =
      (inr (p.tree.scale, is_scale, subst (λ (q : PlanContents). RanAll q old new) plan ran), keeps)
  untold old new out out' faults faults' _ is_scale ran stops = absurd stops

  -- all was run, and not all was written
  pub run_untold : {T : Type 0} (result : Result T Refusal) (old new : Crew) (out out' : Option (List ℕ)) (faults faults' : ℕ)
      → IsScale (drilled number).tasks p.tree.scale → RanAll p old new → IfErr result (StopsAtText number p.tree.scale out out' faults faults')
      → IfErr result (StopsAtDrill number out out' faults faults' old new)
  run_untold result old new out out' faults faults' is_scale ran stops =
      IfErr-weaker result _ _ (λ r why. untold old new out out' faults faults' r is_scale ran why) stops

  -- not all was run
  pub unrun : (old new : Crew) (out : Option (List ℕ)) (faults : ℕ) (r : Refusal) → IsScale (drilled number).tasks p.tree.scale → StopsInRun p usual_window
      old new r
      → (r ≡ why.NoMemory → new ≡ old) → StopsAtDrill number out out faults faults old new r
  unrun old new out faults (why.GateFault row name) is_scale stops left =
      ((p.tree.scale, is_scale, subst (λ (q : PlanContents). StopsInRun q usual_window old new (why.GateFault row name)) plan stops), keeps_same out)
  unrun old new out faults (why.JobFault row name) is_scale stops left =
      ((p.tree.scale, is_scale, subst (λ (q : PlanContents). StopsInRun q usual_window old new (why.JobFault row name)) plan stops), keeps_same out)
  unrun old new out faults why.NoMemory is_scale stops left = (inl (left refl), keeps_same out)
  unrun old new out faults _ is_scale stops left = absurd stops
