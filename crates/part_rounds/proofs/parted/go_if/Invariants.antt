use Rattle.part_rounds.specs.PartedSteps.{IsTelling}
use Rattle.part_rounds.proofs.parted.go_if.Given as goal

abbrev pub invariant-loop-k : goal.invariant-loop-k
invariant-loop-k l = record {
  telling : IsTelling l.plan l.now l.rounds.part.packs.items l.k l.fn.shows l.shows;
}
