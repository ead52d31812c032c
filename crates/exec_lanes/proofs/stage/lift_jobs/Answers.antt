use Rattle.std.proofs.Common.{◌≡◌, ◌+◌, Some, None, length, refl, sym, ap, ◌∙◌, arith}
use Rattle.std.specs.Prelude.{slice_get}
use Rattle.std.proofs.lemmas.List.{length-set, length_push}
use Rattle.std.proofs.lemmas.Option.{slice_get_within}
use Rattle.sched_edges.specs.Jobs.{JobPlaces}
use Rattle.exec_lanes.proofs.PlaceLemmas.{below_set, above_set, each_push}
use Rattle.exec_lanes.proofs.stage.lift_jobs.Goals as goal

pub lift-requires : goal.lift-requires
lift-requires g c =
    let job = c.requires.there c.loop-t.t c.loop-t-test.true in
    (job.0, c.loop-t.invariant.others c.loop-t.t (omega arith) ∙ job.1)

pub loop-t-preserved : goal.loop-t-preserved
loop-t-preserved g c =
    let inv = c.loop-t.invariant in
    let within = slice_get_within c.loop-t.jobs.places c.loop-t.t (Some c.lift.result) c.lift.ensures.job in
    let rest : c.lift.new.self.places ≡ _ = ap (λ (s : JobPlaces g.row.J.Denot). s.places) c.lift.ensures.rest in
    record {
      count = rw c.add.ensures.places (length_push c.loop-t.out.places (Some c.lift.result) ∙ ap (λ n. n + 1) inv.count);
      left = (let room = c.add.ensures.room in let left = inv.left in omega (arith, room, left));
      moved = rw c.add.ensures.places (each_push (λ t place. place ≡ slice_get c.args.jobs.now.places t) c.loop-t.out.places c.loop-t.t (Some c.lift.result)
          inv.count (sym c.lift.ensures.job ∙ inv.others c.loop-t.t (omega arith)) inv.moved);
      lifted = rw rest (below_set (λ t place. place ≡ Some None) c.loop-t.jobs.places c.loop-t.t None within refl inv.lifted);
      others = rw rest (above_set (λ t place. place ≡ slice_get c.args.jobs.now.places t) c.loop-t.jobs.places c.loop-t.t None inv.others);
      room = ap (λ (s : JobPlaces g.row.J.Denot). s.room) c.lift.ensures.rest ∙ inv.room;
      all = ap length rest ∙ length-set c.loop-t.jobs.places c.loop-t.t None ∙ inv.all;
    }
