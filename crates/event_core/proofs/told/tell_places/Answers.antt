use Rattle.std.proofs.Common.{arith}
use Rattle.event_core.proofs.HeldTold.{held_none, held_next}
use Rattle.event_core.proofs.told.tell_places.Goals as goal

pub loop-k-init : goal.loop-k-init
loop-k-init c = held_none c.args.places.now.onto c.args.packs.now c.args.told.now

pub loop-k-preserved : goal.loop-k-preserved
loop-k-preserved c =
    let few = c.loop-k.invariant.few in
    let on = c.loop-k-test.true in
    let room = c.requires.room in
    let kept = c.loop-k.auto.told in
    held_next c.args.places.now.onto c.args.packs.now c.loop-k.told c.tell-count.new.told c.loop-k.k c.loop-k.count c.tell-count.result c.holder_of.result
    (omega (arith, few, on, room, kept)) c.holder_of.ensures.holder c.holder_of.ensures.within
    c.tell-count.ensures.some c.tell-count.ensures.none c.loop-k.invariant
