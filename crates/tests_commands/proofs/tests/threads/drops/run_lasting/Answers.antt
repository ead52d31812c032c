use Rattle.std.proofs.Common.{ℕ, refl, ap, ◌∙◌, arith}
use denote.Param.Object.{read_made}
use Rattle.run_tool.proofs.ReadyLemmas.{no_jobs_made, one_more_made, are_ready}
use Rattle.tests_commands.proofs.tests.threads.drops.run_lasting.OwnLists.{own-1, at-1-1}
use Rattle.tests_commands.proofs.tests.threads.drops.run_lasting.Goals as goal

pub loop-id-init : goal.loop-id-init
loop-id-init g c = no_jobs_made _ _ _ _ _ _ (rw c.expect-jobs.ensures at c.with_room.ensures.room)
    (rw c.expect-jobs.ensures at c.with_room.ensures.none)

pub loop-id-preserved : goal.loop-id-preserved
loop-id-preserved g c =
    let boxed = rw c.expect.ensures at c.new.ensures.ok in
    one_more_made _ _ _ _ c.loop-id.id _ _ _ _ _ c.loop-id.invariant c.add.ensures.room c.add.ensures.places
    (read_made own-1 (own-1.entry at-1-1) at-1-1 refl ℕ (λ e x. e.1.id x) _ _ _ c.into_dyn_box.ensures.1
    ∙ ap (λ j. j.id) boxed ∙ c.new-job.ensures.id)
    (read_made own-1 (own-1.entry at-1-1) at-1-1 refl ℕ (λ e x. e.1.used x) _ _ _ c.into_dyn_box.ensures.1
    ∙ ap (λ j. j.used) boxed ∙ c.new-job.ensures.used)

pub perform-told-requires-clause-ready : goal.perform-told-requires-clause-ready
perform-told-requires-clause-ready g c =
    λ _ _.
    let past = c.loop-id-test.false in
    let within = c.loop-id.auto.id-end in
    are_ready 32 c.loop-id.id (omega arith) (omega (arith, past, within)) c.kits_of-kits.ensures c.loop-id.invariant.first
