use Rattle.std.proofs.Common.{◌≡◌}
use Rattle.run_tree.specs.Making.{last_rates}
use Rattle.run_compile.proofs.HigherLemmas.{below}
use Rattle.run_compile.proofs.higher.lower_rates.Given as goal

abbrev pub invariant-loop-i : goal.invariant-loop-i
invariant-loop-i l = l.rates.items ≡ below l.scale l.i (last_rates l.maker)
