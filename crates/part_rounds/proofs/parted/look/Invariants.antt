use Rattle.part_rounds.specs.PartedSteps.{AreLooked}
use Rattle.part_rounds.proofs.parted.look.Given as goal

abbrev pub invariant-loop-j : goal.invariant-loop-j
invariant-loop-j l = record {
  looked : AreLooked l.plan l.start l.end l.told l.j l.fn.leaves l.leaves;
}
