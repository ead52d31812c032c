use Rattle.std.proofs.Common.{length}
use Rattle.run_tree.specs.Compiled.{first_level}
use Rattle.run_compile.proofs.HigherLemmas.{IsClimbing}
use Rattle.run_compile.proofs.higher.tree_of.Given as goal

abbrev pub invariant-loop-alloc : goal.invariant-loop-alloc
invariant-loop-alloc l = IsClimbing (first_level l.rates.processors l.rates.scale l.rates.each.now) l.maker l.lower.items

abbrev pub decreases-loop-alloc : goal.decreases-loop-alloc
decreases-loop-alloc l = length l.lower.items
