use Rattle.job_vm.proofs.LoadingLemmas.{AfterLoad, put_new, loaded_place, left_place, still_filled}
use Rattle.job_vm.proofs.loading.load.Goals as goal

pub returns-clause-loaded : goal.returns-clause-loaded
returns-clause-loaded g c =
    let e = c.load-answer.ensures in
    let after : AfterLoad g.J.Job c.args.scale c.args.code.now c.lift-job.result c.load-answer.new.self c.load-answer.result =
    record { id = e.id; faults = e.faults; used = e.used; made = e.made; left_used = e.left_used; left_made = e.left_made } in
    let is = put_new _ _ _ c.args.i c.load-answer.new.self c.lift-job.ensures.rest c.lay.ensures in
    rw is (loaded_place g.J.Job c.args.scale c.args.code.now c.args.jobs.now.places c.args.i c.lift-job.result c.load-answer.new.self c.load-answer.result
    c.lift-job.ensures.job after)

pub returns-clause-left : goal.returns-clause-left
returns-clause-left g c =
    let e = c.load-answer.ensures in
    let after : AfterLoad g.J.Job c.args.scale c.args.code.now c.lift-job.result c.load-answer.new.self c.load-answer.result =
    record { id = e.id; faults = e.faults; used = e.used; made = e.made; left_used = e.left_used; left_made = e.left_made } in
    let is = put_new _ _ _ c.args.i c.load-answer.new.self c.lift-job.ensures.rest c.lay.ensures in
    rw is (left_place g.J.Job c.args.scale c.args.code.now c.args.jobs.now.places c.args.i c.lift-job.result c.load-answer.new.self c.load-answer.result
    c.lift-job.ensures.job after)

pub returns-clause-filled : goal.returns-clause-filled
returns-clause-filled g c =
    let is = put_new _ _ _ c.args.i c.load-answer.new.self c.lift-job.ensures.rest c.lay.ensures in
    rw is (still_filled c.args.jobs.now.places c.args.i c.lift-job.result c.load-answer.new.self c.lift-job.ensures.job)
