use Rattle.std.proofs.Common.{refl, ◌∙◌, ap, sym, subst, arith}
use Rattle.sched_base.specs.Sets.{SetContents}
use Rattle.run_tree.specs.Compiled.{tree_of}
use Rattle.command_words.specs.Words.{HasWindow}
use Rattle.command_words.specs.declared.command.Execution.TheVariants.{Exec, ExecMet, Jobs, Modes}
use Rattle.pure_commands.specs.Ends.{streams_of}
use Rattle.pure_commands.specs.Input.{IsSchedulable}
use Rattle.pure_commands.proofs.EndLemmas.{keeps_same}
use Rattle.pure_commands.proofs.StreamLemmas.{streams}
use Rattle.run_tool.proofs.JobRunLemmas.{refused_stops, jobs_done, jobs_stopped, jobs_unread}
use Rattle.run_tool.proofs.ModeEndLemmas.{modes_done, modes_unwritten, modes_unread, modes_stopped, modes_called}
use Rattle.run_tool.proofs.PartLemmas.{ends_above, ends_as, ends_early, ends_drill, ends_written, stops_first, stops_with}
use Rattle.run_tool.proofs.RunLemmas.{unread_same}
use Rattle.run_tool.proofs.running.perform.Goals as goal

pub returns-in-Drill : goal.returns-in-Drill
returns-in-Drill g c = ends_drill c.drill.result c.args.execution c.in-Drill.number c.in-Drill.is
    (streams (g.R.Source.left c.args.source.now) (g.R.Source.faults c.args.source.now) (g.W.Sink.taken c.args.out.now) (g.W.Sink.faults c.args.out.now))
    (streams (g.R.Source.left c.args.source.now) (g.R.Source.faults c.args.source.now) (g.W.Sink.taken c.drill.new.out) (g.W.Sink.faults c.drill.new.out))
    _ _ _ (unread_same _ _ _ _ _ _) c.drill.ensures

pub returns-in-Exec : goal.returns-in-Exec
returns-in-Exec g c = ends_early c.exec.result c.args.execution (Exec c.in-Exec.window) c.in-Exec.is _ _ _ _ _ refl c.exec.ensures

pub returns-in-ExecMet : goal.returns-in-ExecMet
returns-in-ExecMet g c = ends_early c.exec-in-ExecMet.result c.args.execution ExecMet c.in-ExecMet.is _ _ _ _ _ refl c.exec-in-ExecMet.ensures

pub exec-requires-clause-ready : goal.exec-requires-clause-ready
exec-requires-clause-ready g c κs within = c.requires.ready

pub exec-requires-clause-some_window : goal.exec-requires-clause-some_window
exec-requires-clause-some_window g c κs within = (subst HasWindow c.in-Exec.is c.requires.window).0

pub exec-requires-clause-small_window : goal.exec-requires-clause-small_window
exec-requires-clause-small_window g c κs within = (subst HasWindow c.in-Exec.is c.requires.window).1

pub exec-requires-in-ExecMet-clause-ready : goal.exec-requires-in-ExecMet-clause-ready
exec-requires-in-ExecMet-clause-ready g c κs within = c.requires.ready

pub exec-requires-in-ExecMet-clause-some_window : goal.exec-requires-in-ExecMet-clause-some_window
exec-requires-in-ExecMet-clause-some_window g c κs within = omega arith

pub exec-requires-in-ExecMet-clause-small_window : goal.exec-requires-in-ExecMet-clause-small_window
exec-requires-in-ExecMet-clause-small_window g c κs within = omega arith

pub drill-requires-clause-ready : goal.drill-requires-clause-ready
drill-requires-clause-ready g c κs within = c.requires.ready

pub returns-in_err-text-in-Jobs : goal.returns-in_err-text-in-Jobs
returns-in_err-text-in-Jobs g c =
    let old = streams_of g.R.Source g.W.Sink c.args.source.now c.args.out.now in
    let new = streams_of g.R.Source g.W.Sink c.read_job_input.new.source c.args.out.now in
    ends_as _ c.args.execution Jobs c.in-Jobs.is _ _ _ _ _ (stops_first _ _ c.from_residual.ensures.1 (jobs_unread old new _ _ _
    c.in_err-text-in-Jobs.ensures.refusal (keeps_same _) refl))

pub returns-in_err-plan-in-Jobs : goal.returns-in_err-plan-in-Jobs
returns-in_err-plan-in-Jobs g c =
    let old = streams_of g.R.Source g.W.Sink c.args.source.now c.args.out.now in
    let new = streams_of g.R.Source g.W.Sink c.read_job_input.new.source c.args.out.now in
    ends_as _ c.args.execution Jobs c.in-Jobs.is _ _ _ _ _ (stops_first _ _ c.from_residual-in_err-plan-in-Jobs.ensures.1
    (jobs_stopped old new _ _ c.in_ok-text-in-Jobs.text c.in_ok-text-in-Jobs.set _ c.in_ok-text-in-Jobs.ensures.read
    (refused_stops c.in_ok-text-in-Jobs.text _ _ _ c.in_ok-text-in-Jobs.set _ c.in_err-plan-in-Jobs.ensures.refused)))

pub load_and_run-requires-clause-run : goal.load_and_run-requires-clause-run
load_and_run-requires-clause-run g c κs within =
    let plan = c.in_ok-plan-in-Jobs.plan in
    subst (λ (s : SetContents). IsSchedulable s plan.tree.scale) (sym c.in_ok-plan-in-Jobs.ensures.set) c.in_ok-plan-in-Jobs.ensures.run

pub load_and_run-requires-clause-tree : goal.load_and_run-requires-clause-tree
load_and_run-requires-clause-tree g c κs within =
    c.in_ok-plan-in-Jobs.ensures.tree ∙ ap (tree_of c.in_ok-plan-in-Jobs.plan.tree.scale) (sym c.in_ok-plan-in-Jobs.ensures.set)

pub load_and_run-requires-clause-ready : goal.load_and_run-requires-clause-ready
load_and_run-requires-clause-ready g c κs within = c.requires.ready

pub returns-in_ok-plan-in-Jobs : goal.returns-in_ok-plan-in-Jobs
returns-in_ok-plan-in-Jobs g c =
    let old = streams_of g.R.Source g.W.Sink c.args.source.now c.args.out.now in
    let new = streams_of g.R.Source g.W.Sink c.read_job_input.new.source c.load_and_run.new.out in
    ends_as _ c.args.execution Jobs c.in-Jobs.is _ _ _ _ _ (ends_above _ (rw c.in_ok-plan-in-Jobs.ensures.set at c.load_and_run.ensures)
    (λ ran. jobs_done old new _ _ c.in_ok-text-in-Jobs.text c.in_ok-text-in-Jobs.set c.in_ok-text-in-Jobs.ensures.read ran)
    (λ r stops. jobs_stopped old new _ _ c.in_ok-text-in-Jobs.text c.in_ok-text-in-Jobs.set r c.in_ok-text-in-Jobs.ensures.read stops))

pub returns-in_err-modes-in-Modes : goal.returns-in_err-modes-in-Modes
returns-in_err-modes-in-Modes g c =
    let old = streams_of g.R.Source g.W.Sink c.args.source.now c.args.out.now in
    let new = streams_of g.R.Source g.W.Sink c.read_modes.new.source c.args.out.now in
    ends_as _ c.args.execution Modes c.in-Modes.is _ _ _ _ _ (stops_first _ _ c.from_residual-in_err-modes-in-Modes.ensures.1 (modes_unread old new _ _ _
    c.in_err-modes-in-Modes.ensures.refusal (keeps_same _) refl))

pub returns-in_err-run-in-Modes : goal.returns-in_err-run-in-Modes
returns-in_err-run-in-Modes g c =
    let old = streams_of g.R.Source g.W.Sink c.args.source.now c.args.out.now in
    let new = streams_of g.R.Source g.W.Sink c.read_modes.new.source c.args.out.now in
    ends_as _ c.args.execution Modes c.in-Modes.is _ _ _ _ _ (stops_with _ _ c.from_residual-in_err-run-in-Modes.ensures.1
    (modes_stopped old new _ _ c.in_ok-modes-in-Modes.modes _ c.in_ok-modes-in-Modes.ensures.read c.in_err-run-in-Modes.ensures.stops (keeps_same _))
    (modes_called c.in_ok-modes-in-Modes.modes.modes _ _ _ c.in_err-run-in-Modes.ensures.stops) c.run_all.ensures.back)

pub write_modes-requires : goal.write_modes-requires
write_modes-requires g c = c.in_ok-run-in-Modes.ensures.runs

pub returns-in_ok-run-in-Modes : goal.returns-in_ok-run-in-Modes
returns-in_ok-run-in-Modes g c =
    let old = streams_of g.R.Source g.W.Sink c.args.source.now c.args.out.now in
    let new = streams_of g.R.Source g.W.Sink c.read_modes.new.source c.write_modes.new.out in
    ends_as _ c.args.execution Modes c.in-Modes.is _ _ _ _ _ (ends_written c.write_modes.result c.written.result _ _ _ c.written.ensures
    c.write_modes.ensures.wrote.ok c.write_modes.ensures.wrote.err
    c.write_modes.ensures.cause.failed refl
    (modes_done old new _ _ c.in_ok-modes-in-Modes.modes c.in_ok-modes-in-Modes.ensures.read c.in_ok-run-in-Modes.ensures.ran)
    (modes_unwritten old new _ _ c.in_ok-modes-in-Modes.modes c.in_ok-modes-in-Modes.ensures.read c.in_ok-run-in-Modes.ensures.ran) c.run_all.ensures.back)
