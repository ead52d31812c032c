use Rattle.std.proofs.Common.{◌≡◌, ℕ, [], refl, ap, ◌∙◌, arith}
use denote.Param.Object.{read_made}
use Rattle.sched_edges.specs.Jobs.{FailHeld}
use Rattle.tests_executions.proofs.RunLemmas.{ok_of, ready_filled, ready_empty, no_jobs_made, one_more_made, all_made, job_left}
use Rattle.tests_executions.proofs.executions.run_jobs.OwnLists.{own-1, at-1-1}
use Rattle.tests_executions.proofs.executions.run_jobs.Goals as goal

pub loop-t-init : goal.loop-t-init
loop-t-init g c =
    no_jobs_made _ _ _ _ _ (ok_of _ _ c.expect-jobs.ensures (λ s. s.room ≡ 3) c.with_room.ensures.room)
    (ok_of _ _ c.expect-jobs.ensures (λ s. s.places ≡ []) c.with_room.ensures.none)

pub loop-t-preserved : goal.loop-t-preserved
loop-t-preserved g c =
    let boxed = ok_of _ _ c.expect.ensures (λ b. b.value ≡ c.expect-job.result) c.new-in-loop-t.ensures.ok in
    one_more_made _ _ _ c.loop-t.t _ _ _ _ _ c.loop-t.invariant c.add.ensures.room c.add.ensures.places
    (read_made own-1 (own-1.entry at-1-1) at-1-1 refl ℕ (λ e x. e.1.id x) _ _ _ c.into_dyn_box.ensures.1 ∙ ap (λ j. j.id) boxed
    ∙ ok_of _ _ c.expect-job.ensures (λ (j : FailHeld). j.id ≡ c.loop-t.t) c.new.ensures.id)
    (read_made own-1 (own-1.entry at-1-1) at-1-1 refl ℕ (λ e x. e.1.used x) _ _ _ c.into_dyn_box.ensures.1 ∙ ap (λ j. j.used) boxed
    ∙ ok_of _ _ c.expect-job.ensures (λ (j : FailHeld). j.used ≡ 0) c.new.ensures.used)

pub execute-answer-requires-clause-executable : goal.execute-answer-requires-clause-executable
execute-answer-requires-clause-executable g c = λ _ _. c.requires.ready.executable

pub execute-answer-requires-clause-kits : goal.execute-answer-requires-clause-kits
execute-answer-requires-clause-kits g c = λ _ _. ready_filled _ _ _ _ _ _ c.requires.ready

pub execute-answer-requires-clause-empty : goal.execute-answer-requires-clause-empty
execute-answer-requires-clause-empty g c = λ _ _. ready_empty _ _ _ _ _ _ c.requires.ready

pub execute-answer-requires-clause-jobs : goal.execute-answer-requires-clause-jobs
execute-answer-requires-clause-jobs g c = λ _ _. all_made _ _ 3 c.loop-t.t _ _ c.loop-t.invariant c.loop-t-test.false _ c.requires.ready.tasks

pub told-requires : goal.told-requires
told-requires g c = λ t below.
    let three = c.requires.ready.tasks in
    let past = c.loop-t-test.false in
    let job = c.loop-t.invariant.fresh t (omega (arith, below, past)) in
    job_left _ _ _ _ _ _ c.args.plan.now _ c.args.kits.now.items c.execute-answer.new.kits.items c.loop-t.jobs.places c.execute-answer.new.jobs.places
    c.execute-answer.result c.execute-answer.ensures.outcome t job.0 (omega (arith, below, three)) job.1
