use Rattle.std.proofs.Common.{refl, append_assoc}
use Rattle.trace_draw.specs.Head.{units_text}
use Rattle.trace_draw.proofs.head.units_text.Goals as goal

pub returns-clause-text : goal.returns-clause-text
unfolding units_text
returns-clause-text c =
    simp (c.add_units-3.ensures.text, c.horizon.ensures.value, c.add_units-2.ensures.text, c.add_units.ensures.text, c.new-text.ensures, append_assoc) refl
