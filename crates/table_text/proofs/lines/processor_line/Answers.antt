use Rattle.std.proofs.Common.{refl, append_assoc}
use Rattle.table_text.specs.Lines.{processor_line}
use Rattle.table_text.proofs.lines.processor_line.Goals as goal

pub returns : goal.returns
unfolding processor_line
returns c =
    simp (c.text.ensures, c.add_number-2.ensures.text, c.from.ensures, c.add_number.ensures.text, c.new-line.ensures, append_assoc) refl
