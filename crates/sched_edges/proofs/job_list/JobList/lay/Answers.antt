use Rattle.std.proofs.Common.{ap, sym, Some}
use Rattle.std.specs.Prelude.{slice_set}
use Rattle.sched_edges.specs.Jobs.{JobPlaces}
use Rattle.sched_edges.proofs.JobLemmas.{place_within}
use Rattle.sched_edges.proofs.job_list.JobList.lay.Goals as goal

pub index_mut-requires : goal.index_mut-requires
index_mut-requires g c =
    let same = ap (λ (s : JobPlaces g.row.J.Denot). s.places) c.self.view_is in
    place_within _ _ c.args.i _ _ same c.requires (sym c.self.inside.places.ok.0)

pub invariant_of-self : goal.invariant_of-self
invariant_of-self g c = c.self.invariant

pub returns : goal.returns
returns g c =
    let P : JobPlaces g.row.J.Denot → JobPlaces g.row.J.Denot = λ s. record { places = slice_set s.places c.args.i (Some c.args.job); room = s.room } in
    ap P c.self.view_is
