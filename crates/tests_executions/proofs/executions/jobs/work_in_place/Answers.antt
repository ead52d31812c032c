use Rattle.std.proofs.Common.{Some, None, ap, ◌∙◌}
use Rattle.std.specs.Prelude.{slice_get}
use Rattle.sched_edges.specs.Jobs.{JobPlaces}
use Rattle.tests_executions.proofs.RunLemmas.{laid}
use Rattle.tests_executions.proofs.executions.jobs.work_in_place.Goals as goal

pub lift-job-requires : goal.lift-job-requires
lift-job-requires g c = c.requires

pub lay-requires : goal.lay-requires
lay-requires g c = ap (λ (s : JobPlaces g.row.J.Denot). slice_get s.places 1) c.lift-job.ensures.rest ∙ laid _ 1 _ None c.lift-job.ensures.job

pub used-requires-3 : goal.used-requires-3
used-requires-3 g c =
    let empty = ap (λ (s : JobPlaces g.row.J.Denot). slice_get s.places 1) c.lift-job.ensures.rest ∙ laid _ 1 _ None c.lift-job.ensures.job in
    (c.work-2.new.self, ap (λ (s : JobPlaces g.row.J.Denot). slice_get s.places 1) c.lay.ensures ∙ laid _ 1 None (Some c.work-2.new.self) empty)

pub faults-requires : goal.faults-requires
faults-requires g c =
    let empty = ap (λ (s : JobPlaces g.row.J.Denot). slice_get s.places 1) c.lift-job.ensures.rest ∙ laid _ 1 _ None c.lift-job.ensures.job in
    (c.work-2.new.self, ap (λ (s : JobPlaces g.row.J.Denot). slice_get s.places 1) c.lay.ensures ∙ laid _ 1 None (Some c.work-2.new.self) empty)
