use Rattle.std.proofs.Common.{◌<◌, ◌≤◌, ◌-◌, length}
use Rattle.merged_rounds.specs.Laps.{round_start}
use Rattle.merged_rounds.proofs.copies.starts_before.Given as goal

abbrev pub invariant-halves : goal.invariant-halves
invariant-halves l = record {
  order : l.low < l.high;
  within : l.high ≤ length l.kept.ends;
  begun : round_start 0 l.kept.ends l.low < l.tick;
  next : l.tick ≤ round_start 0 l.kept.ends l.high;
}

abbrev pub decreases-halves : goal.decreases-halves
decreases-halves l = l.high - l.low
