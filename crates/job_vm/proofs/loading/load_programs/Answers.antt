use Rattle.std.proofs.Common.{◌<◌, ◌∙◌, ap, length, arith}
use Rattle.job_vm.specs.Loading.{code_of}
use Rattle.job_vm.proofs.LoadingLemmas.{loaded_more}
use Rattle.job_vm.proofs.loading.load_programs.Goals as goal

pub load-requires-clause-there : goal.load-requires-clause-there
load-requires-clause-there g c =
    let count = c.count-i-end.ensures.value in
    let within = c.loop-i-test.true in
    c.loop-i.invariant.there c.loop-i.i (omega (arith, count, within))

pub loop-i-preserved : goal.loop-i-preserved
loop-i-preserved g c =
    let inv = c.loop-i.invariant in
    let count = c.count-i-end.ensures.value in
    let test = c.loop-i-test.true in
    let within : c.loop-i.i < length c.args.set.now.tasks = omega (arith, count, test) in
    let is = rw c.tasks.ensures.value at c.index-tasks-i.is in
    let job = inv.there c.loop-i.i within in
    let held = c.in_ok-load.ensures.loaded job.0 job.1 in
    let code = c.code_of.ensures ∙ ap (code_of c.args.text.now.programs) c.as_slice.ensures.bytes in
    let step = rw code at held in
    record {
      there = λ k below. let held = inv.there k below in c.in_ok-load.ensures.filled k held.0 held.1;
      loaded = loaded_more g.J.Job c.args.scale c.args.text.now.programs c.args.set.now.tasks c.args.jobs.now.places c.loop-i.jobs.places _ c.loop-i.i
          c.index-tasks-i.result job.0 within is
          inv.loaded job.1 step;
      room = c.in_ok-load.ensures.room ∙ inv.room;
    }
