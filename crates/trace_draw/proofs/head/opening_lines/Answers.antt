use Rattle.std.proofs.Common.{refl}
use Rattle.trace_draw.proofs.head.opening_lines.Goals as goal

pub returns : goal.returns
returns c =
    rw (c.word_line.ensures, c.shape_line.ensures, c.bottom.ensures.value, c.title_line.ensures, c.word_line-2.ensures, c.description_line.ensures) refl

pub description_line-requires : goal.description_line-requires
description_line-requires c = c.requires
