use Rattle.table_text.proofs.table.write_fields.Goals as goal

pub returns-clause-wrote : goal.returns-clause-wrote
returns-clause-wrote g c =
    rw (
      c.field_line.ensures,
      c.field_line-2.ensures,
      c.field_line-3.ensures,
      c.ticks_of.ensures,
      c.field_line-4.ensures,
      c.tick_of.ensures,
      c.field_line-5.ensures,
      c.from.ensures,
      c.horizon.ensures.value,
      c.field_line-6.ensures,
      c.from-2.ensures,
      c.processors.ensures.value,
      c.field_line-7.ensures,
      c.from-3.ensures,
      c.count.ensures.value,
      c.text.ensures,
      c.new-closing.ensures,
    ) at c.write_lines.ensures.wrote

pub returns-clause-cause : goal.returns-clause-cause
returns-clause-cause g c = c.write_lines.ensures.cause
