use Rattle.std.proofs.Common.{arith, sym}
use Rattle.event_core.proofs.ToldLemmas.{told_none, told_next}
use Rattle.part_rounds.proofs.placed.tell_places.Goals as goal

pub loop-k-init : goal.loop-k-init
loop-k-init c = told_none c.args.places.now c.args.packs.now c.args.told.now

pub loop-k-preserved : goal.loop-k-preserved
loop-k-preserved c =
    let few = c.loop-k.invariant.few in
    let on = c.loop-k-test.true in
    let room = c.requires.room in
    let kept = c.loop-k.auto.told in
    told_next c.args.places.now c.args.packs.now c.loop-k.told c.tell-count.new.told c.loop-k.k c.loop-k.count c.tell-count.result c.last_of.result
    c.know_noted.ensures (omega (arith, few, on, room, kept)) (sym c.last_of.ensures)
    c.tell-count.ensures.some c.tell-count.ensures.none c.loop-k.invariant
