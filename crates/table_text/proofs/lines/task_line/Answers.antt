use Rattle.std.proofs.Common.{refl, append_assoc}
use Rattle.table_text.specs.Lines.{task_line}
use Rattle.table_text.proofs.lines.task_line.Goals as goal

pub returns : goal.returns
unfolding task_line
returns c =
    simp (
      c.text-3.ensures,
      c.add_number-3.ensures.text,
      c.from-3.ensures,
      c.add_number-2.ensures.text,
      c.from-2.ensures,
      c.add_number.ensures.text,
      c.from.ensures,
      c.text-2.ensures,
      c.as_slice.ensures.bytes,
      c.text.ensures,
      c.new-line.ensures,
      append_assoc,
    ) refl
