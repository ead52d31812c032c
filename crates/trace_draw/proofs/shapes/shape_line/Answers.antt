use Rattle.std.proofs.Common.{refl, append_assoc}
use Rattle.trace_draw.specs.Shapes.{shape_line}
use Rattle.trace_draw.proofs.shapes.shape_line.Goals as goal

pub returns : goal.returns
unfolding shape_line
returns c =
    simp (c.end.ensures, c.text.ensures, c.add_number-2.ensures.text, c.add_number.ensures.text, c.new-line.ensures, append_assoc) refl
