use Rattle.std.proofs.lemmas.Result.{err_from_is_err_and, IfErr-weaker, IfOk-weaker}
use Rattle.pure_commands.specs.Commands.{of_trace, Writes}
use Rattle.pure_commands.specs.Ends.{streams_of}
use Rattle.pure_commands.proofs.EndLemmas.{keeps_same}
use Rattle.pure_commands.proofs.InputLemmas.{no_trace_given}
use Rattle.pure_commands.proofs.CheckLemmas.{verdict_told, verdict_stopped, trace_unread}
use Rattle.pure_commands.proofs.check.check.Goals as goal

pub returns-in_err-trace-clause-stops : goal.returns-in_err-trace-clause-stops
returns-in_err-trace-clause-stops g c =
    let old = streams_of g.R.Source g.W.Sink c.args.source.now c.args.out.now in
    let new = streams_of g.R.Source g.W.Sink c.read_checked_source.new.source c.args.out.now in
    let why = err_from_is_err_and c.from_residual.result c.from_residual.ensures.1 in
    rw (why.1, why.2) (trace_unread (Writes of_trace) old new _ (no_trace_given _ _ _ _ _ _ c.in_err-trace.ensures.fault) (keeps_same _))

pub returns-clause-told : goal.returns-clause-told
returns-clause-told g c =
    let old = streams_of g.R.Source g.W.Sink c.args.source.now c.args.out.now in
    let new = streams_of g.R.Source g.W.Sink c.read_checked_source.new.source c.write_verdict.new.out in
    IfOk-weaker c.write_verdict.result _ _ (λ status h. verdict_told old new c.in_ok-trace.trace status (record { gave = c.in_ok-trace.ensures.trace }) h)
    c.write_verdict.ensures.told

pub returns-clause-stops : goal.returns-clause-stops
returns-clause-stops g c =
    let old = streams_of g.R.Source g.W.Sink c.args.source.now c.args.out.now in
    let new = streams_of g.R.Source g.W.Sink c.read_checked_source.new.source c.write_verdict.new.out in
    IfErr-weaker c.write_verdict.result _ _ (λ r h. verdict_stopped old new c.in_ok-trace.trace r (record { gave = c.in_ok-trace.ensures.trace }) h)
    c.write_verdict.ensures.stops
