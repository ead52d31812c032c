use Rattle.std.proofs.Common.{refl, append_assoc}
use Rattle.table_text.specs.Lines.{row_line}
use Rattle.table_text.proofs.lines.row_line.Goals as goal

pub returns : goal.returns
unfolding row_line
returns c =
    simp (
      c.text-3.ensures,
      c.text-2.ensures,
      c.as_slice.ensures.bytes,
      c.task_number.ensures.text,
      c.text.ensures,
      c.add_number-2.ensures.text,
      c.add_number.ensures.text,
      c.new-line.ensures,
      append_assoc,
    ) refl
