use Rattle.std.proofs.Common.{refl, append_assoc}
use Rattle.table_text.proofs.lines.ticks_line.Goals as goal

pub returns : goal.returns
returns c =
    simp (c.text.ensures, c.add_number.ensures.text, c.new-line.ensures, append_assoc) refl
