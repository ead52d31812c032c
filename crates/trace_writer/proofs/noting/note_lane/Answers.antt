use Rattle.std.proofs.Common.{length}
use Rattle.trace_writer.proofs.LaneLemmas.{names_next}
use Rattle.trace_writer.proofs.NotedLemmas.{none_left, has_noted_none, has_noted_more, has_noted_all}
use Rattle.trace_writer.proofs.noting.note_lane.Goals as goal

pub loop-row-init : goal.loop-row-init
loop-row-init g c = has_noted_none c.args.scale c.args.set.now _ _ c.args.finishes.now c.requires.whole c.requires.names c.requires.room

pub note-requires-clause-room : goal.note-requires-clause-room
note-requires-clause-room g c = c.loop-row.invariant.room

pub note-requires-clause-among : goal.note-requires-clause-among
note-requires-clause-among g c = (names_next (length c.args.set.now.tasks) _ _ c.in-Some.row c.in-Some.ensures.first c.loop-row.invariant.names).0

pub loop-row-preserved : goal.loop-row-preserved
loop-row-preserved g c =
    has_noted_more c.args.scale c.args.set.now _ _ _ c.in-Some.row _ _ _ c.in-Some.ensures.first c.loop-row.invariant c.note.ensures.room c.note.ensures.done

pub returns-clause-room : goal.returns-clause-room
returns-clause-room g c = c.loop-row.invariant.room

pub returns-clause-done : goal.returns-clause-done
returns-clause-done g c = has_noted_all c.args.scale c.args.set.now _ _ _ _ (none_left c.next_row.result c.in_default.not-Some c.next_row.ensures.none)
    c.loop-row.invariant
