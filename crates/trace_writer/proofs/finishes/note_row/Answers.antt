use Rattle.std.proofs.Common.{◌<◌, length, subst}
use Rattle.sched_base.specs.declared.rows.Leaf.{Leaf}
use Rattle.row_totals.specs.Sums.{IsAmong}
use Rattle.trace_writer.proofs.FinishLemmas.{item_fits, room_put, note_done, note_none}
use Rattle.trace_writer.proofs.finishes.note_row.Goals as goal

pub note-requires-clause-fits : goal.note-requires-clause-fits
note-requires-clause-fits c =
    let within : c.in-Task.id.0 < length c.args.set.now.tasks = subst (λ (l : Leaf). IsAmong (length c.args.set.now.tasks) l) c.in-Task.is c.requires.among in
    item_fits c.args.set.now c.args.finishes.now c.in-Task.id.0 c.index-tasks-j.result _ c.tasks.ensures.lawful c.requires.room within
    (rw c.tasks.ensures.value at c.index-tasks-j.is)

pub returns-in-Task-clause-room : goal.returns-in-Task-clause-room
returns-in-Task-clause-room c =
    let within : c.in-Task.id.0 < length c.args.set.now.tasks = subst (λ (l : Leaf). IsAmong (length c.args.set.now.tasks) l) c.in-Task.is c.requires.among in
    room_put c.args.set.now c.args.finishes.now c.in-Task.id.0 c.note.new.self _ c.requires.room within c.note.ensures.same

pub returns-in-Task-clause-done : goal.returns-in-Task-clause-done
returns-in-Task-clause-done c = λ rows done.
    let within : c.in-Task.id.0 < length c.args.set.now.tasks = subst (λ (l : Leaf). IsAmong (length c.args.set.now.tasks) l) c.in-Task.is c.requires.among in
    note_done c.args.scale c.args.set.now rows c.args.row.now c.in-Task.id c.args.finishes.now c.note.new.self c.index-tasks-j.result _ c.requires.room within
    (rw c.tasks.ensures.value at c.index-tasks-j.is) c.in-Task.is (c.note.ensures.done rows) done

pub returns-in_default : goal.returns-in_default
returns-in_default c = record {
  room = c.requires.room;
  done = λ rows done. note_none c.args.scale c.args.set.now rows c.args.row.now c.args.finishes.now c.in_default.not-Task done;
}
