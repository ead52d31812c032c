use Rattle.std.proofs.Common.{ℕ, refl, ap, ◌∙◌, arith}
use Rattle.run_tool.proofs.CrewLemmas.{job_in_place}
use Rattle.run_tool.proofs.ReadyLemmas.{no_jobs_made, one_more_made, are_ready}
use Rattle.tests_commands.proofs.tests.calls.call_with.OwnLists.{own-1, at-1-1, at-1-2, at-1-3}
use denote.Param.Object.{read_made}
use Rattle.tests_commands.proofs.tests.calls.call_with.Goals.{in-Fail, in-Program, in-Count}
use Rattle.tests_commands.proofs.tests.calls.call_with.Goals as goal

pub loop-id-init : goal.loop-id-init
loop-id-init g c = no_jobs_made _ _ _ _ _ _ (rw c.expect-jobs.ensures at c.with_room.ensures.room)
    (rw c.expect-jobs.ensures at c.with_room.ensures.none)

pub loop-id-preserved : goal.loop-id-preserved
loop-id-preserved g c =
    elim c.match-kind_of.branch [
      | in-Fail w ↦
          let boxed = rw w.expect.ensures at w.new.ensures.ok in
          rw w.jobs-is (one_more_made _ _ _ _ c.loop-id.id _ _ _ _ _ c.loop-id.invariant w.add.ensures.room w.add.ensures.places
          (read_made own-1 (own-1.entry at-1-1) at-1-1 refl ℕ (λ e x. e.1.id x) _ _ _ w.into_dyn_box.ensures.1 ∙ ap (λ j. j.id) boxed
          ∙ w.failing-job.ensures.id)
          (read_made own-1 (own-1.entry at-1-1) at-1-1 refl ℕ (λ e x. e.1.used x) _ _ _ w.into_dyn_box.ensures.1 ∙ ap (λ j. j.used) boxed
          ∙ w.failing-job.ensures.used))
      | in-Program w ↦
          let boxed = rw w.expect-in-Program.ensures at w.new-in-Program.ensures.ok in
          rw w.jobs-is (one_more_made _ _ _ _ c.loop-id.id _ _ _ _ _ c.loop-id.invariant w.add-in-Program.ensures.room w.add-in-Program.ensures.places
          (read_made own-1 (own-1.entry at-1-2) at-1-2 refl ℕ (λ e x. e.1.id x) _ _ _ w.into_dyn_box-in-Program.ensures.1 ∙ ap (λ j. j.id) (boxed
          ∙ w.new-job.ensures))
          (read_made own-1 (own-1.entry at-1-2) at-1-2 refl ℕ (λ e x. e.1.used x) _ _ _ w.into_dyn_box-in-Program.ensures.1 ∙ ap (λ j. j.used) (boxed
          ∙ w.new-job.ensures)))
      | in-Count w ↦
          let boxed = rw w.expect-in-Count.ensures at w.new-in-Count.ensures.ok in
          rw w.jobs-is (one_more_made _ _ _ _ c.loop-id.id _ _ _ _ _ c.loop-id.invariant w.add-in-Count.ensures.room w.add-in-Count.ensures.places
          (read_made own-1 (own-1.entry at-1-3) at-1-3 refl ℕ (λ e x. e.1.id x) _ _ _ w.into_dyn_box-in-Count.ensures.1 ∙ ap (λ j. j.id) (boxed
          ∙ w.new-job-in-Count.ensures))
          (read_made own-1 (own-1.entry at-1-3) at-1-3 refl ℕ (λ e x. e.1.used x) _ _ _ w.into_dyn_box-in-Count.ensures.1 ∙ ap (λ j. j.used) (boxed
          ∙ w.new-job-in-Count.ensures)))
    ]

pub perform-told-requires-clause-ready : goal.perform-told-requires-clause-ready
perform-told-requires-clause-ready g c =
    λ _ _.
    let past = c.loop-id-test.false in
    let within = c.loop-id.auto.id-end in
    are_ready 32 c.loop-id.id (omega arith) (omega (arith, past, within)) c.requires c.loop-id.invariant.first

pub told_by-requires : goal.told_by-requires
told_by-requires g c = λ i within.
    let past = c.loop-id-test.false in
    let (j, at, own, unused) = c.loop-id.invariant.first.unused i (omega (arith, within, past)) in
    let (k, there, same, count) = c.perform-told.ensures.jobs i j at in
    let (job, in_place, shown) = job_in_place _ _ _ _ _ i k there in
    (job, in_place)
