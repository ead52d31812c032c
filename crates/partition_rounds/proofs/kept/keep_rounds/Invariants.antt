use Rattle.std.proofs.Common.{◌-◌, ◌≡◌, ◌*◌}
use Rattle.run_tree.specs.Plans.{stop_of}
use Rattle.event_core.specs.Cores.{IsCoreOf}
use Rattle.partition_rounds.specs.OwnRounds.{AreKeptOf, kept_end}
use Rattle.partition_rounds.proofs.kept.keep_rounds.Given as goal

abbrev pub invariant-rounds : goal.invariant-rounds
invariant-rounds l = record {
  belongs : IsCoreOf l.own.plan l.core;
  kept : AreKeptOf l.own l.kept;
  end : kept_end l.kept ≡ l.core.tick * l.own.factor;
}

abbrev pub decreases-rounds : goal.decreases-rounds
decreases-rounds l = stop_of l.own.plan - l.core.tick
