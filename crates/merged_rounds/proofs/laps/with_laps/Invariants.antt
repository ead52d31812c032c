use Rattle.std.proofs.Common.{◌+◌, ◌-◌, ◌<◌, ◌≤◌, min}
use Rattle.run_tree.specs.Plans.{stop_of}
use Rattle.merged_rounds.specs.Laps.{IsSumUpTo, StandsLaterAgain}
use Rattle.merged_rounds.proofs.laps.with_laps.Given as goal

abbrev pub invariant-laps : goal.invariant-laps
invariant-laps l = record {
  again : l.from + l.shift < stop_of l.plan → StandsLaterAgain l.plan l.from l.shift;
  sum : IsSumUpTo l.plan (min (l.from + l.shift) (stop_of l.plan)) l.sum;
  near : l.from + l.shift ≤ stop_of l.plan + l.ticks;
}

abbrev pub decreases-laps : goal.decreases-laps
decreases-laps l = stop_of l.plan - (l.from + l.shift)
