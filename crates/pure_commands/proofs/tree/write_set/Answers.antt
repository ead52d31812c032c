use Rattle.std.proofs.Common.{ap₂}
use Rattle.std.proofs.lemmas.Result.{IfOk-from_err, err_from_is_err_and}
use Rattle.sched_base.specs.Sets.{SetContents}
use Rattle.run_tree.specs.Tree.{Tree}
use Rattle.tree_text.specs.Text.{tree_text}
use Rattle.pure_commands.specs.Commands.{server_tree}
use Rattle.pure_commands.proofs.LineLemmas.{appends_as, took_as}
use Rattle.pure_commands.proofs.SetLemmas.{refused_stops}
use Rattle.pure_commands.proofs.WrittenLemmas.{on_written, if_unwritten}
use Rattle.pure_commands.proofs.tree.write_set.Goals as goal

pub returns-in_err-plan-clause-done : goal.returns-in_err-plan-clause-done
returns-in_err-plan-clause-done g c = IfOk-from_err _ _ c.from_residual.ensures.0

pub returns-in_err-plan-clause-stops : goal.returns-in_err-plan-clause-stops
returns-in_err-plan-clause-stops g c =
    let why = err_from_is_err_and c.from_residual.result c.from_residual.ensures.1 in
    rw (why.1, why.2) (refused_stops server_tree c.args.set _ _ _ c.in_err-plan.ensures.refused)

pub returns-clause-stops : goal.returns-clause-stops
returns-clause-stops g c =
    let is = ap₂ (λ (s : SetContents) (t : Tree). tree_text (record { set = s; tree = t })) c.in_ok-plan.ensures.set c.in_ok-plan.ensures.tree in
    if_unwritten c.write_tree.result c.written.result c.written.ensures _ _ _ c.write_tree.ensures.wrote.err c.write_tree.ensures.cause.failed
    (λ took rose. (
      c.in_ok-plan.plan.tree.scale,
      c.in_ok-plan.ensures.run,
      tt,
      took_as _ _ _ _ is took,
      rose,
    ))

pub returns-clause-done : goal.returns-clause-done
returns-clause-done g c =
    let is = ap₂ (λ (s : SetContents) (t : Tree). tree_text (record { set = s; tree = t })) c.in_ok-plan.ensures.set c.in_ok-plan.ensures.tree in
    on_written c.write_tree.result c.written.result c.written.ensures _ _ c.write_tree.ensures.wrote.ok
    (λ took. (c.in_ok-plan.plan.tree.scale, c.in_ok-plan.ensures.run, tt, appends_as _ _ _ _ is took))
