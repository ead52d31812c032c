use Rattle.std.proofs.Common.{◌≡◌, ◌-◌}
use Rattle.run_tree.specs.Plans.{stop_of}
use Rattle.event_core.specs.Cores.{IsCoreOf}
use Rattle.event_core.specs.Rounds.{rounds_before}
use Rattle.merged_rounds.proofs.recurrences.go_up_to.Given as goal

abbrev pub invariant-rounds : goal.invariant-rounds
invariant-rounds l = record {
  belongs : IsCoreOf l.plan l.core;
  here : l.count ≡ rounds_before l.plan l.core.tick;
}

abbrev pub decreases-rounds : goal.decreases-rounds
decreases-rounds l = stop_of l.plan - l.core.tick
