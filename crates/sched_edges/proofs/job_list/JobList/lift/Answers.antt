use Rattle.std.proofs.Common.{Option, ap, sym, ◌∙◌, None, Some}
use Rattle.std.specs.Prelude.{slice_set, is_some}
use Rattle.sched_edges.specs.Jobs.{JobPlaces}
use Rattle.sched_edges.proofs.JobLemmas.{place_is, place_within}
use Rattle.sched_edges.proofs.job_list.JobList.lift.Goals as goal

pub index_mut-place-requires : goal.index_mut-place-requires
index_mut-place-requires g c =
    let same = ap (λ (s : JobPlaces g.row.J.Denot). s.places) c.self.view_is in
    place_within _ _ c.args.i _ _ same c.requires.1 (sym c.self.inside.places.ok.0)

pub unwrap-requires : goal.unwrap-requires
unwrap-requires g c =
    let same = ap (λ (s : JobPlaces g.row.J.Denot). s.places) c.self.view_is in
    ap is_some (c.take.ensures.value ∙ place_is _ _ c.args.i _ _ same c.requires.1 c.index_mut-place.ensures.value)

pub invariant_of-self : goal.invariant_of-self
invariant_of-self g c = c.self.invariant

pub returns-clause-job : goal.returns-clause-job
returns-clause-job g c =
    let same = ap (λ (s : JobPlaces g.row.J.Denot). s.places) c.self.view_is in
    let is = place_is _ _ c.args.i _ _ same c.requires.1 c.index_mut-place.ensures.value in
    c.requires.1 ∙ ap (λ x. Some x) (sym is ∙ sym c.take.ensures.value ∙ c.unwrap.ensures)

pub returns-clause-rest : goal.returns-clause-rest
returns-clause-rest g c =
    let P : Option g.row.J.Denot → JobPlaces g.row.J.Denot =
    λ x. record { places = slice_set c.self.inside.places.items c.args.i x; room = c.self.inside.room } in
    let Q : JobPlaces g.row.J.Denot → JobPlaces g.row.J.Denot = λ s. record { places = slice_set s.places c.args.i None; room = s.room } in
    ap P c.take.ensures.after ∙ ap Q c.self.view_is
