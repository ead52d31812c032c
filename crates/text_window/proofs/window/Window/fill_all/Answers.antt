use Rattle.std.proofs.Common.{arith}
use Rattle.std.proofs.lemmas.Result.{err_from_is_err_and}
use Rattle.text_window.proofs.WindowLemmas.{filled_stops}
use Rattle.text_window.proofs.window.Window.fill_all.Goals as goal

pub read_on-requires-clause-small : goal.read_on-requires-clause-small
read_on-requires-clause-small g c =
    let same = c.loop.invariant.0.limit in
    let small = c.requires.small in
    omega (arith, same, small)

pub returns-in_err-read_on-clause-stops : goal.returns-in_err-read_on-clause-stops
returns-in_err-read_on-clause-stops g c =
    let (fault, is, same) = err_from_is_err_and c.from_residual.result c.from_residual.ensures.1 in
    rw (is, same) (filled_stops _ _ _ _ _ _ _ _ _ c.loop.invariant.0 c.loop.invariant.1 c.in_err-read_on.ensures.stops)
