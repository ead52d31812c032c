use Rattle.std.proofs.Common.{false}
use Rattle.std.proofs.lemmas.Result.{IfOk-from_err, err_from_is_err_and}
use Rattle.pure_commands.specs.Commands.{schedule_rows}
use Rattle.pure_commands.proofs.RepeatLemmas.{not_repeating, repeated_stops, repeated_wrote}
use Rattle.pure_commands.proofs.repeat.write_trace_again.Goals as goal

pub returns-in_err-again-clause-done : goal.returns-in_err-again-clause-done
returns-in_err-again-clause-done g c = IfOk-from_err _ _ c.from_residual.ensures.0

pub returns-in_err-again-clause-stops : goal.returns-in_err-again-clause-stops
returns-in_err-again-clause-stops g c =
    let why = err_from_is_err_and c.from_residual.result c.from_residual.ensures.1 in
    rw (why.1, why.2) (not_repeating (schedule_rows false) c.args.set.now _ _ _ c.in_err-again.ensures.refused)

pub returns-clause-done : goal.returns-clause-done
returns-clause-done g c =
    repeated_wrote (schedule_rows false) c.args.set.now c.in_ok-again.again _ _ c.in_ok-again.ensures.repeats c.write_set.result c.write_set.ensures.done

pub returns-clause-stops : goal.returns-clause-stops
returns-clause-stops g c =
    repeated_stops (schedule_rows false) c.args.set.now c.in_ok-again.again _ _ _ _ c.in_ok-again.ensures.repeats (λ r lacks. lacks) c.write_set.result
    c.write_set.ensures.stops
