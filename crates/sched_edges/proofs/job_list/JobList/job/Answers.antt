use Rattle.std.proofs.Common.{ap, sym, ◌∙◌, Some}
use Rattle.std.specs.Prelude.{is_some}
use Rattle.std.specs.Option.{option_copied}
use Rattle.sched_edges.specs.Jobs.{JobPlaces}
use Rattle.sched_edges.proofs.JobLemmas.{place_is, place_within}
use Rattle.sched_edges.proofs.job_list.JobList.job.Goals as goal

pub index-requires : goal.index-requires
index-requires g c =
    let same = ap (λ (s : JobPlaces g.row.J.Denot). s.places) c.self.view_is in
    place_within _ _ c.args.i _ _ same c.requires.1 (sym c.self.inside.places.ok.0)

pub unwrap-requires : goal.unwrap-requires
unwrap-requires g c =
    let same = ap (λ (s : JobPlaces g.row.J.Denot). s.places) c.self.view_is in
    c.as_ref.ensures.variant ∙ ap is_some (place_is _ _ c.args.i _ _ same c.requires.1 c.index.ensures)

pub returns : goal.returns
returns g c =
    let same = ap (λ (s : JobPlaces g.row.J.Denot). s.places) c.self.view_is in
    let is = place_is _ _ c.args.i _ _ same c.requires.1 c.index.ensures in
    c.requires.1 ∙ ap (λ x. Some x) (sym is ∙ sym c.as_ref.ensures.value ∙ ap option_copied c.unwrap.ensures)
