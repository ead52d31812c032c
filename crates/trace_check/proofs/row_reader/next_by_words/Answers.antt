use Rattle.std.proofs.Common.{sym}
use Rattle.trace_check.proofs.WholeRowLemmas.{row_next}
use Rattle.trace_check.proofs.row_reader.next_by_words.Goals as goal

pub returns-in-Some-row_of : goal.returns-in-Some-row_of
returns-in-Some-row_of c =
    row_next c.args.set.now.tasks c.args.rows.now c.in-Some-row_of.row c.args.text.now c.in-Some.cut.0.now c.in-Some.cut.1.now c.in-Some.ensures.line
    (sym c.if-not-begins_row.ensures) c.in-Some-row_of.ensures.read
    c.in-Some-row_of.ensures.row
