use Rattle.std.specs.List.{concat}
use Rattle.std.proofs.lemmas.Result.{IfOk-from_err}
use Rattle.mode_switch.proofs.RunLemmas.{told_fault}
use Rattle.pure_commands.proofs.EndLemmas.{keeps_same}
use Rattle.run_tool.specs.Drill.{summary_lines}
use Rattle.run_tool.proofs.DrillLemmas.{text_is, drill_is}
use Rattle.run_tool.proofs.DrillEndLemmas.{drill_written, drill_unwritten}
use Rattle.pure_commands.proofs.WrittenLemmas.{on_written, if_unwritten}
use Rattle.run_tool.proofs.drill.write_judged.Goals as goal

pub judged-requires-clause-lanes : goal.judged-requires-clause-lanes
judged-requires-clause-lanes g c = c.requires.lanes

pub judged-requires-clause-few : goal.judged-requires-clause-few
judged-requires-clause-few g c = c.requires.few

pub judged-requires-clause-valid : goal.judged-requires-clause-valid
judged-requires-clause-valid g c = c.requires.valid

pub returns-in_err-told-clause-done : goal.returns-in_err-told-clause-done
returns-in_err-told-clause-done g c = IfOk-from_err _ _ c.from_residual.ensures.0

pub returns-in_err-told-clause-stops : goal.returns-in_err-told-clause-stops
returns-in_err-told-clause-stops g c = told_fault _ _ _ c.from_residual.ensures.1 (keeps_same _)

pub returns-clause-done : goal.returns-clause-done
returns-clause-done g c =
    let p = c.args.plan.now in
    let told = c.in_ok-told.ensures in
    on_written c.write_summary.result c.written.result c.written.ensures _ _ c.write_summary.ensures.wrote.ok
    (drill_written c.args.number p.tree.scale _ _ (concat (summary_lines c.in_ok-told.told))
    (drill_is c.args.number p c.requires.plan c.requires.scale told.judged)
    (text_is c.args.number c.args.rounds p c.in_ok-told.told c.requires.plan c.requires.rounds told.told))

pub returns-clause-stops : goal.returns-clause-stops
returns-clause-stops g c =
    let p = c.args.plan.now in
    let told = c.in_ok-told.ensures in
    if_unwritten c.write_summary.result c.written.result c.written.ensures _ _ _ c.write_summary.ensures.wrote.err c.write_summary.ensures.cause.failed
    (drill_unwritten c.args.number p.tree.scale _ _ _ _ (concat (summary_lines c.in_ok-told.told))
    (drill_is c.args.number p c.requires.plan c.requires.scale told.judged)
    (text_is c.args.number c.args.rounds p c.in_ok-told.told c.requires.plan c.requires.rounds told.told))
