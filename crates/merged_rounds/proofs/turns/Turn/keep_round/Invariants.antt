use Rattle.std.proofs.Common.{◌-◌, ◌≤◌}
use Rattle.merged_rounds.specs.Replays.{AreKept, packs_of}
use Rattle.merged_rounds.proofs.turns.Turn.keep_round.Given as goal

abbrev pub invariant-packs : goal.invariant-packs
invariant-packs l = record {
  kept : AreKept l.plan l.start l.fn.self l.self l.k;
  within : l.k ≤ packs_of l.plan;
}

abbrev pub decreases-packs : goal.decreases-packs
decreases-packs l = l.count - l.k
