use Rattle.std.proofs.lemmas.Result.{IfOk-from_err, err_from_is_err_and}
use Rattle.pure_commands.proofs.EndLemmas.{keeps_same}
use Rattle.pure_commands.proofs.WrittenLemmas.{on_written, if_unwritten}
use Rattle.pure_commands.proofs.wrap.write_wrapped.Goals as goal

pub returns-in_err-rows-clause-done : goal.returns-in_err-rows-clause-done
returns-in_err-rows-clause-done g c = IfOk-from_err _ _ c.from_residual.ensures.0

pub returns-in_err-rows-clause-stops : goal.returns-in_err-rows-clause-stops
returns-in_err-rows-clause-stops g c =
    let why = err_from_is_err_and c.from_residual.result c.from_residual.ensures.1 in
    rw (why.1, why.2) (tt, keeps_same _)

pub returns-in_err-finishes-clause-done : goal.returns-in_err-finishes-clause-done
returns-in_err-finishes-clause-done g c = IfOk-from_err _ _ c.from_residual-in_err-finishes.ensures.0

pub returns-in_err-finishes-clause-stops : goal.returns-in_err-finishes-clause-stops
returns-in_err-finishes-clause-stops g c =
    let why = err_from_is_err_and c.from_residual-in_err-finishes.result c.from_residual-in_err-finishes.ensures.1 in
    rw (why.1, why.2) (tt, keeps_same _)

pub write_wrapped_rows-requires-clause-scale : goal.write_wrapped_rows-requires-clause-scale
write_wrapped_rows-requires-clause-scale g c = c.requires.run.within

pub write_wrapped_rows-requires-clause-rows : goal.write_wrapped_rows-requires-clause-rows
write_wrapped_rows-requires-clause-rows g c = c.in_ok-rows.ensures.rows

pub write_wrapped_rows-requires-clause-lawful : goal.write_wrapped_rows-requires-clause-lawful
write_wrapped_rows-requires-clause-lawful g c = c.in_ok-rows.ensures.lawful

pub returns-clause-stops : goal.returns-clause-stops
returns-clause-stops g c =
    if_unwritten c.write_wrapped_rows.result c.written.result c.written.ensures _ _ _ c.write_wrapped_rows.ensures.wrote.err
    c.write_wrapped_rows.ensures.cause.failed
    (λ took rose. (
      c.args.scale,
      c.requires.run,
      c.requires.few,
      took,
      rose,
    ))

pub returns-clause-done : goal.returns-clause-done
returns-clause-done g c =
    on_written c.write_wrapped_rows.result c.written.result c.written.ensures _ _ c.write_wrapped_rows.ensures.wrote.ok
    (λ took. (c.args.scale, c.requires.run, c.requires.few, took))
