use Rattle.std.proofs.Common.{◌≡◌, ◌∙◌, ℕ, ap, arith, length, set, subst, sym}
use Rattle.merged_rounds.specs.Replays.{IsEntryTaken, IsTaken}
use Rattle.merged_rounds.specs.Shown.{packs_in, shown_in}
use Rattle.merged_rounds.proofs.EntryLemmas.{in_level, pack_there, room_begun, room_seen, room_stopped, shown_there, taken_all, taken_none, taken_step}
use Rattle.merged_rounds.proofs.replays.take_entries.Goals as goal

pub loop-j-init : goal.loop-j-init
loop-j-init c = taken_none (packs_in c.args.entries.now) (shown_in c.args.entries.now) c.args.low c.args.high c.args.shows.now c.clear.new.self
    c.clear.ensures.seen c.clear.ensures.stopped c.clear.ensures.begun (c.clear.ensures.room ∙ c.requires.room)

pub take_entry-requires-clause-pack : goal.take_entry-requires-clause-pack
take_entry-requires-clause-pack c =
    let i = in_level (packs_in c.args.entries.now) (shown_in c.args.entries.now) c.args.low c.args.high c.args.shows.now c.loop-j.shows c.loop-j.j
    c.loop-j.changes c.loop-j.invariant c.requires.ordered c.loop-j.auto.j c.loop-j-test.true in
    let long = c.loop-j.invariant.long in
    let pack = c.pack.ensures ∙ pack_there c.args.entries.now c.args.low c.args.high (length c.args.shows.now) c.loop-j.j c.requires.ordered
    c.loop-j-test.true c.index-entries-j.result c.index-entries-j.is in
    omega (arith, i, long, pack)

pub take_entry-requires-clause-seen : goal.take_entry-requires-clause-seen
take_entry-requires-clause-seen c = room_seen (packs_in c.args.entries.now) (shown_in c.args.entries.now) c.args.low c.args.high c.args.shows.now
    c.loop-j.shows c.loop-j.j c.loop-j.changes c.loop-j.invariant c.requires.ordered c.loop-j.auto.j c.loop-j-test.true

pub take_entry-requires-clause-stopped : goal.take_entry-requires-clause-stopped
take_entry-requires-clause-stopped c =
    room_stopped (packs_in c.args.entries.now) (shown_in c.args.entries.now) c.args.low c.args.high c.args.shows.now c.loop-j.shows c.loop-j.j
    c.loop-j.changes c.loop-j.invariant c.requires.ordered c.loop-j.auto.j c.loop-j-test.true

pub take_entry-requires-clause-begun : goal.take_entry-requires-clause-begun
take_entry-requires-clause-begun c = room_begun (packs_in c.args.entries.now) (shown_in c.args.entries.now) c.args.low c.args.high c.args.shows.now
    c.loop-j.shows c.loop-j.j c.loop-j.changes c.loop-j.invariant c.requires.ordered c.loop-j.auto.j c.loop-j-test.true

pub loop-j-preserved : goal.loop-j-preserved
loop-j-preserved c =
    let pack = c.pack.ensures ∙ pack_there c.args.entries.now c.args.low c.args.high (length c.args.shows.now) c.loop-j.j c.requires.ordered
    c.loop-j-test.true c.index-entries-j.result c.index-entries-j.is in
    let shown = c.shown.ensures ∙ shown_there c.args.entries.now c.args.low c.args.high (length c.args.shows.now) c.loop-j.j c.requires.ordered
    c.loop-j-test.true c.index-entries-j.result c.index-entries-j.is in
    taken_step (packs_in c.args.entries.now) (shown_in c.args.entries.now) c.args.low c.args.high c.args.shows.now c.loop-j.shows c.loop-j.j
    c.loop-j.changes c.loop-j.invariant c.requires.ordered c.loop-j.auto.j c.loop-j-test.true
    c.shown.result shown c.take_entry.new.shows (c.take_entry.ensures.shows ∙ ap (λ k. set c.loop-j.shows k c.shown.result) pack) c.take_entry.new.changes
    (subst (λ (k : ℕ). IsEntryTaken c.loop-j.shows k c.shown.result c.loop-j.changes c.take_entry.new.changes) pack c.take_entry.ensures.taken)
    c.take_entry.ensures.room

pub returns-clause-noted : goal.returns-clause-noted
returns-clause-noted c = taken_all (packs_in c.args.entries.now) (shown_in c.args.entries.now) c.args.low c.args.high c.args.shows.now c.loop-j.shows
    c.loop-j.j c.loop-j.changes c.loop-j.invariant

pub returns-clause-taken : goal.returns-clause-taken
returns-clause-taken c = λ k.
    let up = c.requires.ordered.up in
    let end = c.loop-j.auto.j-end in
    let off = c.loop-j-test.false in
    let all : c.loop-j.j ≡ c.args.high = omega (arith, up, end, off) in
    subst (λ (n : ℕ). IsTaken (packs_in c.args.entries.now) (shown_in c.args.entries.now) c.args.low n c.args.shows.now c.loop-j.shows k) all
    (c.loop-j.invariant.each k)

pub returns-clause-room : goal.returns-clause-room
returns-clause-room c = c.loop-j.invariant.room ∙ sym c.requires.room
