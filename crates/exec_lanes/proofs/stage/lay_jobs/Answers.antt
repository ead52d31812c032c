use Rattle.std.proofs.Common.{◌≡◌, Some, None, length, sym, ap, ◌∙◌, arith}
use Rattle.std.specs.Prelude.{slice_get}
use Rattle.std.proofs.lemmas.List.{length-set}
use Rattle.std.proofs.lemmas.Option.{slice_get_within}
use Rattle.sched_edges.specs.Jobs.{JobPlaces}
use Rattle.exec_lanes.proofs.PlaceLemmas.{below_set, above_set}
use Rattle.exec_lanes.proofs.stage.lay_jobs.Goals as goal

pub lift-requires : goal.lift-requires
lift-requires g c =
    let job = c.requires.there c.loop-t.t c.loop-t-test.true in
    (job.0, c.loop-t.invariant.left c.loop-t.t (omega arith) ∙ job.1)

pub loop-t-preserved : goal.loop-t-preserved
loop-t-preserved g c =
    let inv = c.loop-t.invariant in
    let empty = inv.others c.loop-t.t (omega arith) ∙ c.requires.empty c.loop-t.t c.loop-t-test.true in
    let within = slice_get_within c.loop-t.jobs.places c.loop-t.t None empty in
    let rest : c.lift.new.self.places ≡ _ = ap (λ (s : JobPlaces g.row.J.Denot). s.places) c.lift.ensures.rest in
    let laid : c.lay.new.self.places ≡ _ = ap (λ (s : JobPlaces g.row.J.Denot). s.places) c.lay.ensures in
    record {
      laid = rw laid (below_set (λ t place. place ≡ slice_get c.args.back.now.places t) c.loop-t.jobs.places c.loop-t.t (Some c.lift.result) within
          (sym c.lift.ensures.job ∙ inv.left c.loop-t.t (omega arith)) inv.laid);
      left = rw rest (above_set (λ t place. place ≡ slice_get c.args.back.now.places t) c.loop-t.back.places c.loop-t.t None inv.left);
      others = rw laid (above_set (λ t place. place ≡ slice_get c.args.jobs.now.places t) c.loop-t.jobs.places c.loop-t.t (Some c.lift.result) inv.others);
      room = ap (λ (s : JobPlaces g.row.J.Denot). s.room) c.lay.ensures ∙ inv.room;
      all = ap length laid ∙ length-set c.loop-t.jobs.places c.loop-t.t (Some c.lift.result) ∙ inv.all;
    }
