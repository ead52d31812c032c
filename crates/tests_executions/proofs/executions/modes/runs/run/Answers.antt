use Rattle.std.proofs.Common.{◌≡◌, ℕ, [], refl, ap, ◌∙◌, arith}
use denote.Param.Object.{read_made}
use Rattle.sched_edges.specs.Jobs.{FailHeld}
use Rattle.mode_switch.proofs.RunLemmas.{enough_jobs}
use Rattle.tests_executions.proofs.RunLemmas.{ok_of, no_jobs_made, one_more_made}
use Rattle.tests_executions.proofs.executions.modes.runs.run.OwnLists.{own-1, at-1-1}
use Rattle.tests_executions.proofs.executions.modes.runs.run.Goals as goal

pub loop-t-init : goal.loop-t-init
loop-t-init g c =
    no_jobs_made _ _ _ _ _ (ok_of _ _ c.expect-jobs.ensures (λ s. s.room ≡ 256) c.with_room.ensures.room)
    (ok_of _ _ c.expect-jobs.ensures (λ s. s.places ≡ []) c.with_room.ensures.none)

pub loop-t-preserved : goal.loop-t-preserved
loop-t-preserved g c =
    let boxed = ok_of _ _ c.expect.ensures (λ b. b.value ≡ c.expect-job.result) c.new-in-loop-t.ensures.ok in
    one_more_made _ _ _ c.loop-t.t _ _ _ _ _ c.loop-t.invariant c.add.ensures.room c.add.ensures.places
    (read_made own-1 (own-1.entry at-1-1) at-1-1 refl ℕ (λ e x. e.1.id x) _ _ _ c.into_dyn_box.ensures.1 ∙ ap (λ j. j.id) boxed
    ∙ ok_of _ _ c.expect-job.ensures (λ (j : FailHeld). j.id ≡ c.loop-t.t) c.new.ensures.id)
    (read_made own-1 (own-1.entry at-1-1) at-1-1 refl ℕ (λ e x. e.1.used x) _ _ _ c.into_dyn_box.ensures.1 ∙ ap (λ j. j.used) boxed
    ∙ ok_of _ _ c.expect-job.ensures (λ (j : FailHeld). j.used ≡ 0) c.new.ensures.used)

pub run_modes-requires-clause-kits : goal.run_modes-requires-clause-kits
run_modes-requires-clause-kits g c = λ _ _ p below.
    let wide = c.processors.ensures.value in
    let kit = c.requires p (omega (arith, below, wide)) in
    (kit.0, kit.1)

pub run_modes-requires-clause-jobs : goal.run_modes-requires-clause-jobs
run_modes-requires-clause-jobs g c = λ _ _.
    let past = c.loop-t-test.false in
    enough_jobs _ c.loop-t.jobs.places c.args.modes.now.processors c.args.modes.now.modes c.processors.ensures.lawful.each
    (λ t below. let job = c.loop-t.invariant.fresh t (omega (arith, below, past)) in (job.0, job.1, job.2))
