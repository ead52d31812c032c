use Rattle.std.proofs.Common.{◌-◌}
use Rattle.run_tree.specs.Plans.{stop_of}
use Rattle.merged_rounds.specs.Laps.{IsMerging}
use Rattle.merged_rounds.proofs.passes.merge_looking.Given as goal

abbrev pub invariant-rounds : goal.invariant-rounds
invariant-rounds l = IsMerging l.plan l.core l.sum l.kept

abbrev pub decreases-rounds : goal.decreases-rounds
decreases-rounds l = stop_of l.plan - l.core.tick
