use Rattle.std.proofs.Common.{sym, ap, subst, length, [], ◌∷◌, ◌++◌, ◌∙◌}
use Rattle.trace_writer.specs.Finishes.{HaveRoom, AreDoneBy}
use Rattle.trace_writer.proofs.FinishLemmas.{written_whole}
use Rattle.trace_writer.proofs.finishes.Finishes.note.Goals as goal

pub note_row-requires-clause-scale : goal.note_row-requires-clause-scale
note_row-requires-clause-scale c = c.requires.scale

pub note_row-requires-clause-room : goal.note_row-requires-clause-room
note_row-requires-clause-room c = subst (HaveRoom c.args.set.now) (sym (c.as_mut_slice.ensures.value ∙ c.self.view_is)) c.requires.room

pub note_row-requires-clause-among : goal.note_row-requires-clause-among
note_row-requires-clause-among c = c.requires.among

pub returns-clause-room : goal.returns-clause-room
returns-clause-room c =
    let f = c.self.inside.tasks in
    let kept = written_whole c.note_row.new.finishes f.items f.len (c.note_row.auto.finishes ∙ c.as_mut_slice.ensures.len)
    (ap length (sym c.as_mut_slice.ensures.value) ∙ c.as_mut_slice.ensures.len) in
    subst (HaveRoom c.args.set.now) (sym kept) c.note_row.ensures.room

pub returns-clause-done : goal.returns-clause-done
returns-clause-done c = λ rows done.
    let f = c.self.inside.tasks in
    let tasks = c.args.set.now.tasks in
    let kept = written_whole c.note_row.new.finishes f.items f.len (c.note_row.auto.finishes ∙ c.as_mut_slice.ensures.len)
    (ap length (sym c.as_mut_slice.ensures.value) ∙ c.as_mut_slice.ensures.len) in
    subst (AreDoneBy c.args.scale tasks (rows ++ c.args.row.now ∷ [])) (sym kept)
    (c.note_row.ensures.done rows (subst (AreDoneBy c.args.scale tasks rows) (sym (c.as_mut_slice.ensures.value ∙ c.self.view_is)) done))
