use Rattle.std.proofs.Common.{◌<◌, ◌≤◌, min, false, length, refl, ap, arith}
use Rattle.std.proofs.lemmas.Bool.{both_ways}
use Rattle.sched_edges.specs.Jobs.{JobPlaces}
use Rattle.sched_edges.proofs.JobLemmas.{none_before, told_next, told_at, told_all}
use Rattle.sched_edges.proofs.job_list.JobList.faults_are.Goals as goal

pub loop-i-init : goal.loop-i-init
loop-i-init g c = λ i count job below at given. absurd (none_before i below)

pub index-requires : goal.index-requires
index-requires g c = omega arith

pub bounds-counts-i : goal.bounds-counts-i
bounds-counts-i g c = omega arith

pub returns-then-not-tells : goal.returns-then-not-tells
returns-then-not-tells g c =
    let same = ap (λ (s : JobPlaces g.row.J.Denot). s.places) c.self.view_is in
    let within : c.loop-i.i < length c.self.inside.places.items = omega arith in
    let given : c.loop-i.i < length c.args.counts.now = omega arith in (
      λ no. absurd (both_ways false refl no),
      λ all. c.if-not-tells.ensures.1 (told_at g.J.Job.faults _ _ c.args.counts.now same c.loop-i.i c.index.result.now c.index.ensures within given all),
    )

pub loop-i-preserved : goal.loop-i-preserved
loop-i-preserved g c =
    let same = ap (λ (s : JobPlaces g.row.J.Denot). s.places) c.self.view_is in
    told_next g.J.Job.faults _ _ c.args.counts.now same c.loop-i.i c.index.result.now c.index.ensures (c.if-not-tells.ensures.0 refl) c.loop-i.invariant

pub returns : goal.returns
returns g c =
    let same = ap (λ (s : JobPlaces g.row.J.Denot). s.places) c.self.view_is in
    let past : min (length c.self.inside.places.items) (length c.args.counts.now) ≤ c.loop-i.i = omega arith in
    (λ _. told_all g.J.Job.faults _ _ c.args.counts.now same c.loop-i.i past c.loop-i.invariant, λ _. refl)
