use Rattle.run_compile.proofs.HomeLemmas.{AreHome}
use Rattle.run_compile.proofs.homes.write_home.Given as goal

abbrev pub invariant-loop-item : goal.invariant-loop-item
invariant-loop-item l = AreHome l.fn.homes l.homes l.items l.s l.item-index
