use Rattle.std.proofs.Common.{◌-◌, ◌≡◌, ◌*◌, length}
use Rattle.run_tree.specs.Plans.{stop_of}
use Rattle.event_core.specs.Cores.{IsCoreOf}
use Rattle.merged_rounds.specs.Replays.{packs_of}
use Rattle.part_rounds.specs.PartRounds.{AreKeptOf, kept_end}
use Rattle.part_rounds.proofs.kept.keep_rounds.Given as goal

abbrev pub invariant-rounds : goal.invariant-rounds
invariant-rounds l = record {
  belongs : IsCoreOf l.part.plan l.core;
  kept : AreKeptOf l.part l.kept;
  end : kept_end l.kept ≡ l.core.tick * l.part.factor;
  long : length l.shows ≡ packs_of l.part.plan;
}

abbrev pub decreases-rounds : goal.decreases-rounds
decreases-rounds l = stop_of l.part.plan - l.core.tick
