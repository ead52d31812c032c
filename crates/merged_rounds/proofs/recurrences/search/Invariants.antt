use Rattle.std.proofs.Common.{◌≡◌, ◌≤◌, ◌-◌}
use Rattle.run_tree.specs.Plans.{stop_of}
use Rattle.event_core.specs.Cores.{IsCoreOf}
use Rattle.event_core.specs.Rounds.{rounds_before}
use Rattle.merged_rounds.specs.Recurrences.{IsSeen}
use Rattle.merged_rounds.proofs.recurrences.search.Given as goal

abbrev pub invariant-turns : goal.invariant-turns
invariant-turns l = record {
  belongs : IsCoreOf l.plan l.core;
  here : l.rounds ≡ rounds_before l.plan l.core.tick;
  seen : IsSeen l.plan l.seen;
  late : l.turn ≤ l.at;
}

abbrev pub decreases-turns : goal.decreases-turns
decreases-turns l = stop_of l.plan - l.at
