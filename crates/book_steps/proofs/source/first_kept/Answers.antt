use Rattle.std.proofs.Common.{length, ap, arith}
use Rattle.sched_base.specs.Places.{Placing}
use Rattle.event_core.proofs.OneRound.{last_long, onto_long}
use Rattle.book_steps.proofs.source.first_kept.Goals as goal

pub pack_on-requires : goal.pack_on-requires
pack_on-requires c =
    let e = ap (λ (s : Placing). length s.onto) c.places-places.ensures in
    let long = onto_long c.args.plan.now c.know_lawful.ensures.lawful c.args.core.now c.requires.belongs.at in
    let alone = c.requires.turn.alone in
    omega (arith, e, long, alone)

pub last_of-requires : goal.last_of-requires
last_of-requires c =
    let e = ap (λ (s : Placing). length s.last) c.places-places.ensures in
    let long = last_long c.args.plan.now c.know_lawful.ensures.lawful c.args.core.now c.requires.belongs.at in
    let pack = c.requires.turn.pack in
    omega (arith, e, long, pack)
