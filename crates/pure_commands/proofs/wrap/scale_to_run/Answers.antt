use Rattle.std.proofs.lemmas.Result.{IfOk-from_err, err_from_is_err_and}
use Rattle.pure_commands.proofs.SetLemmas.{load_runs, unfit_refused}
use Rattle.pure_commands.proofs.wrap.scale_to_run.Goals as goal

pub returns-in_err-load-clause-run : goal.returns-in_err-load-clause-run
returns-in_err-load-clause-run c = IfOk-from_err _ _ c.from_residual.ensures.0

pub returns-in_err-load-clause-refused : goal.returns-in_err-load-clause-refused
returns-in_err-load-clause-refused c =
    let why = err_from_is_err_and c.from_residual.result c.from_residual.ensures.1 in
    rw (why.1, why.2) (unfit_refused c.args.set.now _ c.in_err-load.ensures.refused)

pub returns-clause-run : goal.returns-clause-run
returns-clause-run c = load_runs c.args.set.now c.in_ok-load.load c.in_ok-load.ensures.load
