use Rattle.trace_check.proofs.row_lines.next_row.Goals as goal

pub next_by_words-requires-clause-some : goal.next_by_words-requires-clause-some
next_by_words-requires-clause-some c = c.requires.some

pub next_by_words-requires-clause-totals : goal.next_by_words-requires-clause-totals
next_by_words-requires-clause-totals c = c.requires.totals

pub next_by_words-requires-clause-count : goal.next_by_words-requires-clause-count
next_by_words-requires-clause-count c = c.requires.count

pub row_from-row-requires-clause-totals : goal.row_from-row-requires-clause-totals
row_from-row-requires-clause-totals c = c.requires.totals

pub row_from-row-requires-clause-count : goal.row_from-row-requires-clause-count
row_from-row-requires-clause-count c = c.requires.count
