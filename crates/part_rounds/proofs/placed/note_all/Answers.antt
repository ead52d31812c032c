use Rattle.std.proofs.Common.{arith, ◌∙◌}
use Rattle.part_rounds.proofs.PlacedLemmas.{noted_first, noted_more, room_begun, room_seen, room_stopped}
use Rattle.part_rounds.proofs.placed.note_all.Goals as goal

pub loop-k-init : goal.loop-k-init
loop-k-init c = noted_first c.args.shows.now c.args.before.now c.clear.new.self c.clear.ensures.seen c.clear.ensures.stopped c.clear.ensures.begun
    (c.clear.ensures.room ∙ c.requires.room)

pub overflow_cast-k : goal.overflow_cast-k
overflow_cast-k c = let few = c.requires.few in let on = c.loop-k-test.true in omega (arith, few, on)

pub note-requires-clause-seen : goal.note-requires-clause-seen
note-requires-clause-seen c =
    room_seen c.args.shows.now c.args.before.now c.loop-k.before c.loop-k.k c.loop-k.changes c.loop-k.invariant (let on = c.loop-k-test.true in let many =
    c.requires.many in omega (arith, on, many))

pub note-requires-clause-stopped : goal.note-requires-clause-stopped
note-requires-clause-stopped c =
    room_stopped c.args.shows.now c.args.before.now c.loop-k.before c.loop-k.k c.loop-k.changes c.loop-k.invariant (let on = c.loop-k-test.true in
    let many = c.requires.many in omega (arith, on, many))

pub note-requires-clause-begun : goal.note-requires-clause-begun
note-requires-clause-begun c =
    room_begun c.args.shows.now c.args.before.now c.loop-k.before c.loop-k.k c.loop-k.changes c.loop-k.invariant (let on = c.loop-k-test.true in let many =
    c.requires.many in omega (arith, on, many))

pub loop-k-preserved : goal.loop-k-preserved
loop-k-preserved c =
    noted_more c.args.shows.now c.args.before.now c.loop-k.before c.loop-k.k c.loop-k.changes c.loop-k.invariant (let on = c.loop-k-test.true in let many =
    c.requires.many in omega (arith, on, many))
    c.note.new.before c.note.ensures.shows c.note.new.changes c.note.ensures.noted c.note.ensures.room
