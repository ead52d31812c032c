use Rattle.trace_draw.proofs.RowLemmas.{boxes_wrote, words_wrote}
use Rattle.trace_draw.proofs.rows.write_row_of.Goals as goal

pub place-x-requires : goal.place-x-requires
place-x-requires g c = c.requires.window

pub span-width-requires : goal.span-width-requires
span-width-requires g c = c.requires.window

pub boxes_lines-requires : goal.boxes_lines-requires
boxes_lines-requires g c = c.requires.task

pub words_lines-requires-clause-task : goal.words_lines-requires-clause-task
words_lines-requires-clause-task g c = c.requires.task

pub words_lines-requires-clause-x : goal.words_lines-requires-clause-x
words_lines-requires-clause-x g c = c.place-x.ensures.within

pub words_lines-requires-clause-width : goal.words_lines-requires-clause-width
words_lines-requires-clause-width g c = c.span-width.ensures.within

pub returns-in-Boxes-clause-wrote : goal.returns-in-Boxes-clause-wrote
returns-in-Boxes-clause-wrote g c =
    boxes_wrote _ _ c.args.part c.args.set.now c.args.window.now c.args.task c.args.row.now c.place-x.result c.span-width.result c.boxes_lines.result _
    c.in-Boxes.is c.place-x.ensures.value c.span-width.ensures.value
    c.boxes_lines.ensures c.write_lines.ensures.wrote

pub returns-in-Words-clause-wrote : goal.returns-in-Words-clause-wrote
returns-in-Words-clause-wrote g c =
    words_wrote _ _ c.args.part c.args.set.now c.args.window.now c.args.task c.args.row.now c.place-x.result c.span-width.result c.words_lines.result _
    c.in-Words.is c.place-x.ensures.value c.span-width.ensures.value
    c.words_lines.ensures c.write_lines-in-Words.ensures.wrote

pub returns-in-Boxes-clause-cause : goal.returns-in-Boxes-clause-cause
returns-in-Boxes-clause-cause g c = c.write_lines.ensures.cause

pub returns-in-Words-clause-cause : goal.returns-in-Words-clause-cause
returns-in-Words-clause-cause g c = c.write_lines-in-Words.ensures.cause
