use Rattle.std.proofs.Common.{◌<◌, [], length, sym, arith}
use Rattle.std.proofs.lemmas.List.{get_or_default}
use Rattle.sched_base.specs.Sets.{no_task, task_at}
use Rattle.job_vm.proofs.LoadingLemmas.{loaded_more}
use Rattle.mode_switch.proofs.running.begin_anew.Goals as goal

pub begin_job-requires : goal.begin_job-requires
begin_job-requires g c =
    let count = c.count-t-end.ensures.value in
    let within = c.loop-t-test.true in
    c.loop-t.invariant.there c.loop-t.t (omega (arith, count, within))

pub loop-t-preserved : goal.loop-t-preserved
loop-t-preserved g c =
    let inv = c.loop-t.invariant in
    let count = c.count-t-end.ensures.value in
    let test = c.loop-t-test.true in
    let tasks = c.args.set.now.tasks in
    let within : c.loop-t.t < length tasks = omega (arith, count, test) in
    let is = get_or_default tasks c.loop-t.t (task_at tasks c.loop-t.t) no_task within in
    let job = inv.there c.loop-t.t within in
    record {
      there = λ k below. let held = inv.there k below in c.begin_job.ensures.filled k held.0 held.1;
      begun = loaded_more g.J.Job 1 [] tasks c.args.jobs.now.places c.loop-t.jobs.places _ c.loop-t.t (task_at tasks c.loop-t.t) job.0 within (sym is)
          inv.begun job.1 (c.begin_job.ensures.begun job.0 job.1);
    }
