use Rattle.std.proofs.Common.{refl}
use Rattle.run_tool.proofs.PartLemmas.{stops_first, stops_with, ends_written}
use Rattle.pure_commands.proofs.EndLemmas.{keeps_same}
use Rattle.run_tool.proofs.StopLemmas.{uncounted, run_stops, run_written, run_unwritten}
use Rattle.run_tool.proofs.exec.run_and_write.Goals as goal

pub returns-in_err-rounds : goal.returns-in_err-rounds
returns-in_err-rounds g c =
    stops_first _ _ c.from_residual.ensures.1
    (uncounted c.args.plan.now.set c.args.plan.now refl c.requires.tree c.args.window c.args.met _ _ _ _ c.requires.run c.in_err-rounds.ensures.fault)

pub returns-in_err-finishes : goal.returns-in_err-finishes
returns-in_err-finishes g c = stops_first _ _ c.from_residual-in_err-finishes.ensures.1 (tt, keeps_same _)

pub run_plan-requires-clause-executable : goal.run_plan-requires-clause-executable
run_plan-requires-clause-executable g c κs within = record {
  compiled = c.requires.tree;
  rounds = c.in_ok-rounds.ensures.count.0;
  few = c.in_ok-rounds.ensures.count.1;
  some_window = c.requires.some_window;
  small_window = c.requires.small_window;
}

pub run_plan-requires-clause-ready : goal.run_plan-requires-clause-ready
run_plan-requires-clause-ready g c κs within = c.requires.ready

pub returns-in_err-executed : goal.returns-in_err-executed
returns-in_err-executed g c =
    stops_with _ _ c.from_residual-in_err-executed.ensures.1
    (run_stops c.args.plan.now.set c.args.plan.now refl c.requires.tree c.args.window c.args.met _ _ c.in_ok-rounds.rounds _ _ _
    c.requires.run c.in_ok-rounds.ensures.count.0 c.in_ok-rounds.ensures.count.1 c.in_err-executed.ensures.stops)
    c.in_err-executed.ensures.uncalled c.run_plan.ensures.back

pub write_rows-requires-clause-lanes : goal.write_rows-requires-clause-lanes
write_rows-requires-clause-lanes g c = c.in_ok-executed.ensures.lanes

pub write_rows-requires-clause-few : goal.write_rows-requires-clause-few
write_rows-requires-clause-few g c = c.in_ok-executed.ensures.few

pub write_rows-requires-clause-room : goal.write_rows-requires-clause-room
write_rows-requires-clause-room g c = rw (← c.set.ensures.value) c.in_ok-finishes.ensures

pub returns : goal.returns
returns g c =
    ends_written c.write_rows.result c.written.result _ _ _ c.written.ensures c.write_rows.ensures.wrote.ok c.write_rows.ensures.wrote.err
    c.write_rows.ensures.cause.failed refl
    (run_written c.args.plan.now.set c.args.plan.now refl c.requires.tree c.args.met _ _ c.in_ok-rounds.rounds _ _
    c.requires.run c.in_ok-rounds.ensures.count.0 c.in_ok-rounds.ensures.count.1 c.in_ok-executed.ensures.ran)
    (run_unwritten c.args.plan.now.set c.args.plan.now refl c.requires.tree c.args.window c.args.met _ _ _ _ c.in_ok-rounds.rounds _ _
    c.requires.run c.in_ok-rounds.ensures.count.0 c.in_ok-rounds.ensures.count.1 c.in_ok-executed.ensures.ran)
    c.run_plan.ensures.back
