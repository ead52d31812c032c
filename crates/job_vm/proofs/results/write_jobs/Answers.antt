use Rattle.sched_edges.proofs.CauseLemmas.{cause_cut}
use Rattle.std.proofs.Common.{◌≡◌, ◌<◌, ◌∙◌, length, ap, arith, le_refl, le_trans, refl}
use Rattle.std.specs.Prelude.{slice_get}
use Rattle.sched_base.specs.Sets.{task_at}
use Rattle.sched_edges.specs.Jobs.{JobPlaces}
use Rattle.sched_edges.proofs.Wrote.{number_written, wrote_cut, wrote_number, wrote_then}
use Rattle.job_vm.specs.Results.{told_at, job_line}
use Rattle.job_vm.specs.Seen.{seen}
use Rattle.job_vm.proofs.ResultsLemmas.{jobs_text_is, line_of_task}
use Rattle.job_vm.proofs.results.write_jobs.Goals as goal

pub returns-in_err-write_all-clause-wrote : goal.returns-in_err-write_all-clause-wrote
returns-in_err-write_all-clause-wrote g c =
    let head = rw (c.as_slice.ensures.bytes, c.word_line.ensures) at c.in_err-write_all.ensures.wrote in
    rw jobs_text_is (wrote_cut _ _ _ _ _ c.from_residual.result head c.from_residual.ensures.0)

pub returns-in_err-write_all-clause-cause : goal.returns-in_err-write_all-clause-cause
returns-in_err-write_all-clause-cause g c = cause_cut _ _ _ _ _ (le_refl _) c.in_err-write_all.ensures.cause

pub returns-in_err-write_all-clause-same : goal.returns-in_err-write_all-clause-same
returns-in_err-write_all-clause-same g c = refl

pub returns-clause-wrote : goal.returns-clause-wrote
returns-clause-wrote g c =
    let count = c.count-i-end.ensures.value in
    let end = c.loop-i.auto.i-end in
    let off = c.loop-i-test.false in
    let all : c.loop-i.i ≡ length c.args.set.now.tasks = omega (arith, count, end, off) in
    let head = rw (c.as_slice.ensures.bytes, c.word_line.ensures) at c.in_ok-write_all.ensures.wrote in
    rw jobs_text_is (wrote_then _ _ _ _ _ _ _ head (record { ok = rw all at c.loop-i.invariant.wrote; err = tt }))

pub told_at-units-requires-clause-there : goal.told_at-units-requires-clause-there
told_at-units-requires-clause-there g c =
    let count = c.count-i-end.ensures.value in
    let test = c.loop-i-test.true in
    let job = c.requires.jobs c.loop-i.i (omega (arith, count, test)) in
    (job.0, ap (λ (s : JobPlaces g.row.J.Denot). slice_get s.places c.loop-i.i) c.loop-i.invariant.same ∙ job.1)

pub returns-in_err-write_job-clause-wrote : goal.returns-in_err-write_job-clause-wrote
returns-in_err-write_job-clause-wrote g c =
    let tasks = c.args.set.now.tasks in
    let jobs = seen g.J.Job c.args.jobs.now.places in
    let i = c.loop-i.i in
    let count = c.count-i-end.ensures.value in
    let test = c.loop-i-test.true in
    let within : i < length tasks = omega (arith, count, test) in
    let is = rw c.tasks.ensures.value at c.index-tasks-i.is in
    let same = ap (λ (s : JobPlaces g.row.J.Denot). seen g.J.Job s.places) c.loop-i.invariant.same in
    let line = line_of_task tasks c.args.scale jobs (seen g.J.Job c.loop-i.jobs.places) i c.index-tasks-i.result c.as_slice-in-loop-i.result.now _ within is
    c.as_slice-in-loop-i.ensures.bytes same c.told_at-units.ensures.told in
    let wrote = rw line at c.in_err-write_job.ensures.wrote in
    let head = rw (c.as_slice.ensures.bytes, c.word_line.ensures) at c.in_ok-write_all.ensures.wrote in
    rw jobs_text_is (wrote_then _ _ _ _ _ _ c.from_residual-in_err-write_job.result head (wrote_number (λ k. job_line (task_at tasks k).name
    (told_at c.args.scale jobs k)) (length tasks) i _ _ _ _ c.from_residual-in_err-write_job.result within
    c.loop-i.invariant.wrote wrote c.from_residual-in_err-write_job.ensures.0))

pub loop-i-preserved : goal.loop-i-preserved
loop-i-preserved g c =
    let tasks = c.args.set.now.tasks in
    let jobs = seen g.J.Job c.args.jobs.now.places in
    let i = c.loop-i.i in
    let count = c.count-i-end.ensures.value in
    let test = c.loop-i-test.true in
    let within : i < length tasks = omega (arith, count, test) in
    let is = rw c.tasks.ensures.value at c.index-tasks-i.is in
    let same = ap (λ (s : JobPlaces g.row.J.Denot). seen g.J.Job s.places) c.loop-i.invariant.same in
    let line = line_of_task tasks c.args.scale jobs (seen g.J.Job c.loop-i.jobs.places) i c.index-tasks-i.result c.as_slice-in-loop-i.result.now _ within is
    c.as_slice-in-loop-i.ensures.bytes same c.told_at-units.ensures.told in
    let wrote = rw line at c.in_ok-write_job.ensures.wrote.ok in
    let before = c.loop-i.invariant.later in
    let later = c.in_ok-write_job.ensures.cause.later in
    record {
      wrote = number_written (λ k. job_line (task_at tasks k).name (told_at c.args.scale jobs k)) i _ _ _ c.loop-i.invariant.wrote wrote;
      later = omega (arith, before, later);
      same = c.told_at-units.ensures.same ∙ c.loop-i.invariant.same;
    }

pub told_at-units-requires-clause-scale : goal.told_at-units-requires-clause-scale
told_at-units-requires-clause-scale g c = c.requires.scale

pub returns-in_err-write_job-clause-cause : goal.returns-in_err-write_job-clause-cause
returns-in_err-write_job-clause-cause g c = cause_cut _ _ _ _ _ (le_trans c.in_ok-write_all.ensures.cause.later c.loop-i.invariant.later)
    c.in_err-write_job.ensures.cause

pub returns-clause-cause : goal.returns-clause-cause
returns-clause-cause g c = record { later = le_trans c.in_ok-write_all.ensures.cause.later c.loop-i.invariant.later; failed = tt }

pub returns-clause-same : goal.returns-clause-same
returns-clause-same g c = c.loop-i.invariant.same

pub returns-in_err-write_job-clause-same : goal.returns-in_err-write_job-clause-same
returns-in_err-write_job-clause-same g c = c.told_at-units.ensures.same ∙ c.loop-i.invariant.same
