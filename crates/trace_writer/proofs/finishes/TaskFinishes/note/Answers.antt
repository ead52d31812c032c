use Rattle.std.proofs.Common.{◌+◌, ◌*◌, ◌^◌, ◌<◌, [], ◌∷◌, ◌++◌, sym, ap, subst, length, ◌∙◌}
use Rattle.row_totals.proofs.SumLemmas.{written_back}
use Rattle.trace_writer.specs.Finishes.{IsDoneBy}
use Rattle.trace_writer.proofs.finishes.TaskFinishes.note.Goals as goal

pub returns-clause-done : goal.returns-clause-done
returns-clause-done c = λ rows done.
    let ends = c.self.inside.ends in
    let kept = written_back c.note_each-self-inside.new.ends ends.items ends.len (c.note_each-self-inside.auto.ends ∙ c.as_mut_slice.ensures.len)
    (ap length (sym c.as_mut_slice.ensures.value) ∙ c.as_mut_slice.ensures.len) in
    subst (IsDoneBy c.args.scale c.args.task.now c.args.number (rows ++ c.args.row.now ∷ [])) (sym kept)
    (c.note_each-self-inside.ensures rows (subst (IsDoneBy c.args.scale c.args.task.now c.args.number rows) (sym (c.as_mut_slice.ensures.value
    ∙ c.self.view_is)) done))

pub first_period-first-requires-clause-scale : goal.first_period-first-requires-clause-scale
first_period-first-requires-clause-scale c = c.requires.scale

pub first_period-first-requires-clause-some : goal.first_period-first-requires-clause-some
first_period-first-requires-clause-some c = c.requires.some

pub note_each-self-inside-requires-clause-scale : goal.note_each-self-inside-requires-clause-scale
note_each-self-inside-requires-clause-scale c = c.requires.scale

pub note_each-self-inside-requires-clause-own : goal.note_each-self-inside-requires-clause-own
note_each-self-inside-requires-clause-own c = c.requires.own

pub note_each-self-inside-requires-clause-past : goal.note_each-self-inside-requires-clause-past
note_each-self-inside-requires-clause-past c = c.first_period-first.ensures.past

pub note_each-self-inside-requires-clause-fits : goal.note_each-self-inside-requires-clause-fits
note_each-self-inside-requires-clause-fits c =
    subst (λ xs. c.args.task.now.offset + length xs * c.args.task.now.period < 2 ^ 33) (sym (c.as_mut_slice.ensures.value ∙ c.self.view_is)) c.requires.fits
