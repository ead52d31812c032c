use Rattle.std.proofs.Common.{ap}
use Rattle.std.proofs.lemmas.Result.{IfOk-from_err, err_from_is_err_and}
use Rattle.pure_commands.specs.Commands.{schedule_text, version_of}
use Rattle.pure_commands.proofs.CountedLemmas.{plan_is, uncounted, has_room}
use Rattle.pure_commands.proofs.EndLemmas.{keeps_same}
use Rattle.pure_commands.proofs.LineLemmas.{appends_as, took_as}
use Rattle.pure_commands.proofs.TraceLemmas.{merged_text}
use Rattle.pure_commands.proofs.WrittenLemmas.{on_written, if_unwritten}
use Rattle.pure_commands.proofs.trace.write_plan.Goals as goal

pub returns-in_err-rows-clause-done : goal.returns-in_err-rows-clause-done
returns-in_err-rows-clause-done g c = IfOk-from_err _ _ c.from_residual.ensures.0

pub returns-in_err-rows-clause-stops : goal.returns-in_err-rows-clause-stops
returns-in_err-rows-clause-stops g c =
    let why = err_from_is_err_and c.from_residual.result c.from_residual.ensures.1 in
    rw (why.1, why.2) (uncounted c.args.met c.args.plan.now _ _ _ c.requires.run c.requires.tree c.in_err-rows.ensures.fault)

pub returns-in_err-finishes-clause-done : goal.returns-in_err-finishes-clause-done
returns-in_err-finishes-clause-done g c = IfOk-from_err _ _ c.from_residual-in_err-finishes.ensures.0

pub returns-in_err-finishes-clause-stops : goal.returns-in_err-finishes-clause-stops
returns-in_err-finishes-clause-stops g c =
    let why = err_from_is_err_and c.from_residual-in_err-finishes.result c.from_residual-in_err-finishes.ensures.1 in
    rw (why.1, why.2) (tt, keeps_same _)

pub write_merged_rows-requires-clause-lawful : goal.write_merged_rows-requires-clause-lawful
write_merged_rows-requires-clause-lawful g c = rw c.set-set.ensures.value c.in_ok-rows.ensures.lawful

pub returns-clause-stops : goal.returns-clause-stops
returns-clause-stops g c =
    let p = c.args.plan.now in
    let told = rw (merged_text c.args.met p c.in_ok-rows.rows.lanes c.in_ok-rows.ensures.rows) at (rw (c.set-set.ensures.value, c.scale-scale.ensures.value)
    at c.write_merged_rows.ensures.wrote) in
    if_unwritten c.write_merged_rows.result c.written.result c.written.ensures _ _ _ told.err c.write_merged_rows.ensures.cause.failed
    (λ took rose. (
      p.tree.scale,
      c.requires.run,
      has_room p c.requires.tree c.in_ok-rows.ensures.few,
      took_as _ _ _ _ (ap (schedule_text (version_of c.args.met p.set.tasks)) (plan_is p c.requires.tree)) took,
      rose,
    ))

pub returns-clause-done : goal.returns-clause-done
returns-clause-done g c =
    let p = c.args.plan.now in
    let told = rw (merged_text c.args.met p c.in_ok-rows.rows.lanes c.in_ok-rows.ensures.rows) at (rw (c.set-set.ensures.value, c.scale-scale.ensures.value)
    at c.write_merged_rows.ensures.wrote) in
    on_written c.write_merged_rows.result c.written.result c.written.ensures _ _ told.ok (λ took. (
      p.tree.scale,
      c.requires.run,
      has_room p c.requires.tree c.in_ok-rows.ensures.few,
      appends_as _ _ _ _ (ap (schedule_text (version_of c.args.met p.set.tasks)) (plan_is p c.requires.tree)) took,
    ))
