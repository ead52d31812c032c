use Rattle.run_compile.proofs.HomeLemmas.{AreTold}
use Rattle.run_compile.proofs.homes.write_homes.Given as goal

abbrev pub invariant-loop-s : goal.invariant-loop-s
invariant-loop-s l = AreTold l.packing.servers l.homes l.s
