use Rattle.run_tool.proofs.ModeEndLemmas.{AreRead}
use Rattle.run_tool.proofs.modes.read_pieces.Given as goal

abbrev pub invariant-loop-j : goal.invariant-loop-j
invariant-loop-j l = record { read : AreRead l.bytes l.j l.sets.items }
