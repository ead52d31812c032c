use Rattle.std.proofs.Common.{◌-◌}
use Rattle.run_tree.specs.Plans.{stop_of}
use Rattle.part_rounds.specs.Merging.{IsMergingOf}
use Rattle.part_rounds.proofs.merging.merge_to_end.Given as goal

abbrev pub invariant-rounds : goal.invariant-rounds
invariant-rounds l = IsMergingOf l.plan l.parted l.leaves l.sum

abbrev pub decreases-rounds : goal.decreases-rounds
decreases-rounds l = stop_of l.plan - l.parted.tick
