use Rattle.std.proofs.Common.{◌≡◌, ◌-◌, length}
use Rattle.run_tree.specs.Plans.{stop_of}
use Rattle.merged_rounds.specs.Replays.{IsSourceOf}
use Rattle.merged_rounds.specs.Laps.{IsLap, IsSumUpTo, round_start}
use Rattle.merged_rounds.proofs.laps.merge_lap.Given as goal

abbrev pub invariant-rounds : goal.invariant-rounds
invariant-rounds l = record {
  belongs : IsSourceOf l.plan l.source;
  sum : IsSumUpTo l.plan l.source.tick l.sum;
  lap : IsLap l.plan l.fn.source.tick l.lap.ends.items l.lap.told.items;
  end : round_start l.fn.source.tick l.lap.ends.items (length l.lap.ends.items) ≡ l.source.tick;
}

abbrev pub decreases-rounds : goal.decreases-rounds
decreases-rounds l = stop_of l.plan - l.source.tick
