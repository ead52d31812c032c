use Rattle.std.proofs.Common.{◌≡◌, None, ap, ◌∙◌, arith}
use Rattle.std.specs.Prelude.{slice_get}
use Rattle.sched_edges.specs.Jobs.{JobPlaces}
use Rattle.exec_lanes.proofs.PlaceLemmas.{above_set}
use Rattle.tests_commands.proofs.tests.calls.told_by.Goals as goal

pub lift-job-requires : goal.lift-job-requires
lift-job-requires g c =
    let job = c.requires c.loop-i.i (omega arith) in
    (job.0, c.loop-i.invariant c.loop-i.i (omega arith) ∙ job.1)

pub loop-i-preserved : goal.loop-i-preserved
loop-i-preserved g c = λ t above.
    ap (λ (s : JobPlaces g.row.J.Denot). slice_get s.places t) c.lift-job.ensures.rest
    ∙ above_set (λ t place. place ≡ slice_get c.args.jobs.now.places t) c.loop-i.jobs.places c.loop-i.i None c.loop-i.invariant t above
