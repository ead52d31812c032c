use Rattle.std.proofs.Common.{◌+◌, min}
use Rattle.run_tree.specs.Plans.{stop_of}
use Rattle.merged_rounds.specs.Laps.{IsSumUpTo, round_start}
use Rattle.merged_rounds.proofs.laps.with_lap.Given as goal

abbrev pub invariant-loop-i : goal.invariant-loop-i
invariant-loop-i l = IsSumUpTo l.plan (min (round_start l.again.from l.lap.ends.items l.i + l.again.ticks) (stop_of l.plan)) l.sum
