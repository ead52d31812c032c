use Rattle.trace_draw.proofs.picture.write_closing.Goals as goal

pub returns-clause-wrote : goal.returns-clause-wrote
returns-clause-wrote g c = rw (c.roomy_line.ensures, c.roomy_line-2.ensures, c.word_line.ensures, c.bottom-end.ensures.value) at c.write_lines.ensures.wrote

pub returns-clause-cause : goal.returns-clause-cause
returns-clause-cause g c = c.write_lines.ensures.cause
