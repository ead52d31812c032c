use Rattle.std.proofs.Common.{ℕ, List, Option, Some, refl, ap, ◌∙◌, arith}
use Rattle.run_tool.proofs.ReadyLemmas.{no_jobs_made, one_more_made, are_ready, none_made_of, one_more_made_of, never_failed}
use Rattle.run_tool.proofs.AloneLemmas.{alone_run}
use Rattle.furnacelime.proofs.run_with_crew.OwnLists.{own-1, at-1-1}
use denote.Param.Object.{read_made}
use Rattle.furnacelime.proofs.run_with_crew.Goals as goal

pub loop-id-init : goal.loop-id-init
loop-id-init g c = (no_jobs_made _ _ _ _ _ _ c.in_ok-jobs.ensures.room c.in_ok-jobs.ensures.none, none_made_of _ _ _ _ _ _ c.in_ok-jobs.ensures.none)

pub loop-id-preserved : goal.loop-id-preserved
loop-id-preserved g c =
    let is = c.in_ok-new.ensures.ok ∙ c.new.ensures in
    let boxed = c.into_dyn_box.ensures.1 in (
      one_more_made _ _ _ _ c.loop-id.id _ _ _ _ _ c.loop-id.invariant.0 c.add.ensures.room c.add.ensures.places
          (read_made own-1 (own-1.entry at-1-1) at-1-1 refl ℕ (λ e x. e.1.id x) _ _ _ boxed ∙ ap (λ j. j.id) is)
          (read_made own-1 (own-1.entry at-1-1) at-1-1 refl ℕ (λ e x. e.1.used x) _ _ _ boxed ∙ ap (λ j. j.used) is),
      one_more_made_of _ _ _ _ _ _ _ _ c.loop-id.invariant.1 c.add.ensures.places
          (read_made own-1 (own-1.entry at-1-1) at-1-1 refl (Option (ℕ × List ℕ)) (λ e x. e.1.made x) _ _ _ boxed ∙ ap (λ j. Some (j.scale, j.code)) is),
    )

pub run-requires-clause-ready : goal.run-requires-clause-ready
run-requires-clause-ready g c =
    λ _ _.
    let past = c.loop-id-test.false in
    let within = c.loop-id.auto.id-end in
    are_ready 32 c.loop-id.id (omega arith) (omega (arith, past, within)) c.in_ok-kits.ensures c.loop-id.invariant.0.first

pub returns-clause-ends : goal.returns-clause-ends
returns-clause-ends g c =
    let past = c.loop-id-test.false in
    let within = c.loop-id.auto.id-end in
    alone_run _ _ _ _ _ _ c.run.ensures.usage c.run.ensures.invalid _ _
    (are_ready 32 c.loop-id.id (omega arith) (omega (arith, past, within)) c.in_ok-kits.ensures c.loop-id.invariant.0.first) c.loop-id.invariant.1
    (never_failed _ _) c.run.ensures.done c.run.ensures.ends

pub returns-clause-unread : goal.returns-clause-unread
returns-clause-unread g c = c.run.ensures.unread
