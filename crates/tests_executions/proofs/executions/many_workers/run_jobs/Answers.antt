use Rattle.std.proofs.Common.{◌≡◌, ℕ, [], refl, ap, ◌∙◌}
use denote.Param.Object.{read_made}
use Rattle.tests_executions.proofs.RunLemmas.{ok_of, ready_filled, ready_empty, no_jobs_made, one_more_made, all_made}
use Rattle.tests_executions.proofs.executions.many_workers.run_jobs.OwnLists.{own-1, at-1-1}
use Rattle.tests_executions.proofs.executions.many_workers.run_jobs.Goals as goal

pub loop-t-init : goal.loop-t-init
loop-t-init g c =
    no_jobs_made _ _ _ _ _ (ok_of _ _ c.expect-jobs.ensures (λ s. s.room ≡ 25) c.with_room.ensures.room)
    (ok_of _ _ c.expect-jobs.ensures (λ s. s.places ≡ []) c.with_room.ensures.none)

pub loop-t-preserved : goal.loop-t-preserved
loop-t-preserved g c =
    let made = ok_of _ _ c.expect-job.ensures (λ b. b.value ≡ c.new.result) c.new-in-loop-t.ensures.ok ∙ c.new.ensures in
    one_more_made _ _ _ c.loop-t.t _ _ _ _ _ c.loop-t.invariant c.add.ensures.room c.add.ensures.places
    (read_made own-1 (own-1.entry at-1-1) at-1-1 refl ℕ (λ e x. e.1.id x) _ _ _ c.into_dyn_box.ensures.1 ∙ ap (λ j. j.id) made)
    (read_made own-1 (own-1.entry at-1-1) at-1-1 refl ℕ (λ e x. e.1.used x) _ _ _ c.into_dyn_box.ensures.1 ∙ ap (λ j. j.used) made)

pub execute-requires-clause-executable : goal.execute-requires-clause-executable
execute-requires-clause-executable g c = λ _ _. c.requires.ready.executable

pub execute-requires-clause-kits : goal.execute-requires-clause-kits
execute-requires-clause-kits g c = λ _ _. ready_filled _ _ _ _ _ _ c.requires.ready

pub execute-requires-clause-empty : goal.execute-requires-clause-empty
execute-requires-clause-empty g c = λ _ _. ready_empty _ _ _ _ _ _ c.requires.ready

pub execute-requires-clause-jobs : goal.execute-requires-clause-jobs
execute-requires-clause-jobs g c = λ _ _. all_made _ _ 25 c.loop-t.t _ _ c.loop-t.invariant c.loop-t-test.false _ c.requires.ready.tasks
