use Rattle.std.proofs.Common.{◌≡◌, ◌-◌, ◌+◌}
use Rattle.sched_base.specs.Tables.{end_of, rounds_in}
use Rattle.run_tree.specs.Plans.{rounds_of, stop_of}
use Rattle.event_core.specs.Rounds.{rounds_before, rows_before}
use Rattle.event_core.specs.Cores.{IsCoreOf}
use Rattle.sched_base.specs.Lanes.{lanes_of}
use Rattle.round_table.proofs.tables.push_rounds.Given as goal

abbrev pub invariant-rounds : goal.invariant-rounds
invariant-rounds l = record {
  belongs : IsCoreOf l.plan l.core;
  lanes : l.table.lanes ≡ lanes_of l.plan.tree.processors (rows_before l.plan l.core.tick);
  end : end_of l.table.lanes ≡ l.core.tick;
  count : rounds_in l.table.lanes ≡ rounds_before l.plan l.core.tick;
  room : l.table.room + rounds_before l.plan l.core.tick ≡ rounds_of l.plan;
}

abbrev pub decreases-rounds : goal.decreases-rounds
decreases-rounds l = stop_of l.plan - l.core.tick
