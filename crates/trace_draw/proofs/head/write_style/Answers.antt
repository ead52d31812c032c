use Rattle.trace_draw.proofs.head.write_style.Goals as goal

pub returns-clause-wrote : goal.returns-clause-wrote
returns-clause-wrote g c =
    rw (
      c.word_line.ensures,
      c.word_line-2.ensures,
      c.word_line-3.ensures,
      c.word_line-4.ensures,
      c.word_line-5.ensures,
      c.word_line-6.ensures,
      c.word_line-7.ensures,
      c.word_line-8.ensures,
      c.word_line-9.ensures,
      c.word_line-10.ensures,
      c.word_line-11.ensures,
      c.word_line-12.ensures,
    ) at c.write_lines.ensures.wrote

pub returns-clause-cause : goal.returns-clause-cause
returns-clause-cause g c = c.write_lines.ensures.cause
