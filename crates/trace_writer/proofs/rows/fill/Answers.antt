use Rattle.trace_writer.proofs.LaneLemmas.{page_empty, names_next, none_next, left_smaller}
use Rattle.trace_writer.proofs.rows.fill.Goals as goal

pub next_row-requires : goal.next_row-requires
next_row-requires g c = c.requires.processor

pub add_row-requires-clause-among : goal.add_row-requires-clause-among
add_row-requires-clause-among g c = (names_next _ _ _ _ c.in-Some.ensures.first c.lines.invariant.1).0

pub add_row-requires-clause-room : goal.add_row-requires-clause-room
add_row-requires-clause-room g c = c.lines.invariant.2

pub lines-smaller : goal.lines-smaller
lines-smaller g c = left_smaller _ _ _ c.in-Some.ensures.first

pub returns-clause-page : goal.returns-clause-page
returns-clause-page g c = c.lines.invariant.0

pub returns-clause-names : goal.returns-clause-names
returns-clause-names g c = c.lines.invariant.1

pub returns-clause-end : goal.returns-clause-end
returns-clause-end g c = page_empty _ _ _ _ _ (none_next _ c.in_default.not-Some c.next_row.ensures.none) c.lines.invariant.0
