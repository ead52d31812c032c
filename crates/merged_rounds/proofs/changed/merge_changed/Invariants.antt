use Rattle.std.proofs.Common.{◌-◌}
use Rattle.run_tree.specs.Plans.{stop_of}
use Rattle.merged_rounds.specs.Changes.{AreLeavesOf, IsShowing}
use Rattle.merged_rounds.proofs.changed.merge_changed.Given as goal

abbrev pub invariant-rounds : goal.invariant-rounds
invariant-rounds l = IsShowing l.plan l.source l.sum × AreLeavesOf l.plan l.source.tick l.leaves

abbrev pub decreases-rounds : goal.decreases-rounds
decreases-rounds l = stop_of l.plan - l.source.tick
