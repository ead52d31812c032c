use Rattle.idle_fill.proofs.FillLemmas.{Fills}
use Rattle.idle_fill.proofs.top_up.Given as goal

abbrev pub invariant-loop-s : goal.invariant-loop-s
invariant-loop-s l = Fills l.scale l.fn.slack l.fn.packing l.packing l.left l.s
