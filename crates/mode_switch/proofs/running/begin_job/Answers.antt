use Rattle.std.proofs.Common.{[], refl}
use Rattle.job_vm.proofs.LoadingLemmas.{AfterLoad, put_new, loaded_place, still_filled}
use Rattle.mode_switch.proofs.CrewHeldLemmas.{at_ok}
use Rattle.mode_switch.proofs.running.begin_job.Goals as goal

pub returns-clause-begun : goal.returns-clause-begun
returns-clause-begun g c =
    let e = c.load.ensures in
    let after : AfterLoad g.J.Job 1 [] c.lift-job.result c.load.new.self c.load.result =
    record { id = e.id; faults = e.faults; used = e.used; made = e.made; left_used = e.left_used; left_made = e.left_made } in
    let is = put_new _ _ _ c.args.i c.load.new.self c.lift-job.ensures.rest c.lay.ensures in
    rw is (at_ok _ c.load.result (e.empty refl)
    (loaded_place g.J.Job 1 [] c.args.jobs.now.places c.args.i c.lift-job.result c.load.new.self c.load.result c.lift-job.ensures.job after))

pub returns-clause-filled : goal.returns-clause-filled
returns-clause-filled g c =
    let is = put_new _ _ _ c.args.i c.load.new.self c.lift-job.ensures.rest c.lay.ensures in
    rw is (still_filled c.args.jobs.now.places c.args.i c.lift-job.result c.load.new.self c.lift-job.ensures.job)

pub lift-job-requires : goal.lift-job-requires
lift-job-requires g c = c.requires
