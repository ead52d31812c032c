use Rattle.std.proofs.Common.{refl, append_assoc}
use Rattle.table_text.specs.Lines.{field_line}
use Rattle.table_text.proofs.lines.field_line.Goals as goal

pub returns : goal.returns
unfolding field_line
returns c =
    simp (c.text-3.ensures, c.add_number.ensures.text, c.text-2.ensures, c.text.ensures, c.new-line.ensures, append_assoc) refl
