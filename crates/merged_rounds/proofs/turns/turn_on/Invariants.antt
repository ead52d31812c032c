use Rattle.std.proofs.Common.{◌≡◌, ◌-◌, length}
use Rattle.run_tree.specs.Plans.{stop_of}
use Rattle.merged_rounds.specs.Changes.{AreLeavesOf, IsTurning}
use Rattle.merged_rounds.specs.Replays.{AreHolding, packs_of}
use Rattle.merged_rounds.proofs.turns.turn_on.Given as goal

abbrev pub invariant-rounds : goal.invariant-rounds
invariant-rounds l = record {
  going : IsTurning l.plan l.source l.sum l.turn l.told;
  leaves : AreLeavesOf l.plan l.source.tick l.leaves;
  holds : AreHolding l.plan l.source.tick l.holds;
  marks : length l.marks ≡ packs_of l.plan;
}

abbrev pub decreases-rounds : goal.decreases-rounds
decreases-rounds l = stop_of l.plan - l.source.tick
