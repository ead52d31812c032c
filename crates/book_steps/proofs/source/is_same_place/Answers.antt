use Rattle.std.proofs.Common.{◌∙◌, None, length, ap, arith, sym}
use Rattle.std.specs.Prelude.{slice_index_or}
use Rattle.sched_base.specs.Places.{Placing}
use Rattle.event_core.proofs.OneRound.{last_long, onto_long}
use Rattle.book_steps.proofs.SourceLemmas.{same_places}
use Rattle.book_steps.proofs.source.is_same_place.Goals as goal

pub pack_on-requires : goal.pack_on-requires
pack_on-requires c =
    let e = ap (λ (s : Placing). length s.onto) c.places-places.ensures in
    let long = onto_long c.args.plan.now c.know_lawful.ensures.lawful c.args.core.now c.requires.belongs.at in
    let alone = c.requires.turn.alone in
    omega (arith, e, long, alone)

pub last_of-requires : goal.last_of-requires
last_of-requires c =
    let e = ap (λ (s : Placing). length s.last) c.places-places.ensures in
    let long = last_long c.args.plan.now c.know_lawful.ensures.lawful c.args.core.now c.requires.belongs.at in
    let pack = c.requires.turn.pack in
    omega (arith, e, long, pack)

pub returns : goal.returns
returns c = λ same.
    let placed = sym c.requires.belongs.at.placed ∙ sym c.places-places.ensures in
    same_places c.args.plan.now c.args.keeping.ticks c.requires.turn c.args.core.now.tick c.args.keeping.from
    (ap (λ (s : Placing). slice_index_or s.onto 0 None) placed ∙ sym c.pack_on.ensures ∙ c.are_same.ensures c.if-not-are_same.false ∙ c.requires.placed.pack)
    (ap (λ (s : Placing). slice_index_or s.last 0 None) placed ∙ sym c.last_of.ensures ∙ c.are_same-2.ensures same ∙ c.requires.placed.last)
