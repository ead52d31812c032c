use Rattle.std.proofs.lemmas.Result.{IfOk-from_err, err_from_is_err_and}
use Rattle.pure_commands.proofs.SetLemmas.{load_runs, refused_stops, unfit_refused}
use Rattle.pure_commands.proofs.WrittenLemmas.{on_written, if_unwritten}
use Rattle.pure_commands.specs.Commands.{rates}
use Rattle.pure_commands.proofs.rate.write_set.Goals as goal

pub returns-in_err-load-clause-done : goal.returns-in_err-load-clause-done
returns-in_err-load-clause-done g c = IfOk-from_err _ _ c.from_residual.ensures.0

pub returns-in_err-load-clause-stops : goal.returns-in_err-load-clause-stops
returns-in_err-load-clause-stops g c =
    let why = err_from_is_err_and c.from_residual.result c.from_residual.ensures.1 in
    rw (why.1, why.2) (refused_stops rates c.args.set.now _ _ _ (unfit_refused c.args.set.now _ c.in_err-load.ensures.refused))

pub write_rate-requires-clause-scale : goal.write_rate-requires-clause-scale
write_rate-requires-clause-scale g c = c.in_ok-load.ensures.load.scale.is

pub write_rate-requires-clause-scale_fits : goal.write_rate-requires-clause-scale_fits
write_rate-requires-clause-scale_fits g c = c.in_ok-load.ensures.load.scale.within

pub write_rate-requires-clause-total : goal.write_rate-requires-clause-total
write_rate-requires-clause-total g c = c.in_ok-load.ensures.load.total

pub write_rate-requires-clause-room : goal.write_rate-requires-clause-room
write_rate-requires-clause-room g c = c.in_ok-load.ensures.load.room

pub returns-clause-stops : goal.returns-clause-stops
returns-clause-stops g c =
    if_unwritten c.write_rate.result c.written.result c.written.ensures _ _ _ c.write_rate.ensures.wrote.err c.write_rate.ensures.cause.failed
    (λ took rose. (c.in_ok-load.load.scale, load_runs c.args.set.now c.in_ok-load.load c.in_ok-load.ensures.load, tt, took, rose))

pub returns-clause-done : goal.returns-clause-done
returns-clause-done g c =
    on_written c.write_rate.result c.written.result c.written.ensures _ _ c.write_rate.ensures.wrote.ok
    (λ took. (c.in_ok-load.load.scale, load_runs c.args.set.now c.in_ok-load.load c.in_ok-load.ensures.load, tt, took))
