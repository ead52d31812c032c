use Rattle.std.proofs.lemmas.Result.{err_from_is_err_and}
use Rattle.pure_commands.specs.Commands.{of_picture, Writes}
use Rattle.pure_commands.specs.Ends.{streams_of}
use Rattle.pure_commands.proofs.EndLemmas.{keeps_same}
use Rattle.pure_commands.proofs.InputLemmas.{no_trace_given}
use Rattle.pure_commands.proofs.CheckLemmas.{trace_unread}
use Rattle.pure_commands.proofs.draw.draw.Goals as goal

pub returns-in_err-trace-clause-stops : goal.returns-in_err-trace-clause-stops
returns-in_err-trace-clause-stops g c =
    let old = streams_of g.R.Source g.W.Sink c.args.source.now c.args.out.now in
    let new = streams_of g.R.Source g.W.Sink c.read_trace_source.new.source c.args.out.now in
    let why = err_from_is_err_and c.from_residual.result c.from_residual.ensures.1 in
    rw (why.1, why.2) (trace_unread (Writes (of_picture c.args.asked)) old new _ (no_trace_given _ _ _ _ _ _ c.in_err-trace.ensures.fault) (keeps_same _))
