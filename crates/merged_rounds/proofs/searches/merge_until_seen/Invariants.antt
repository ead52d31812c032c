use Rattle.std.proofs.Common.{◌-◌}
use Rattle.run_tree.specs.Plans.{stop_of}
use Rattle.merged_rounds.specs.Replays.{IsMergingFrom}
use Rattle.merged_rounds.specs.Standings.{IsStanding}
use Rattle.merged_rounds.proofs.searches.merge_until_seen.Given as goal

abbrev pub invariant-turns : goal.invariant-turns
invariant-turns l = record {
  merging : IsMergingFrom l.plan l.source l.sum l.kept;
  seen : IsStanding l.plan l.seen;
}

abbrev pub decreases-turns : goal.decreases-turns
decreases-turns l = stop_of l.plan - l.at
