use Rattle.std.proofs.lemmas.Result.{IfOk-from_err}
use Rattle.std.proofs.Common.{ap, ◌∙◌, arith}
use Rattle.std.proofs.lemmas.List.{take_all}
use Rattle.trace_verdict.specs.Orders.{places}
use Rattle.trace_verdict.proofs.StandingLemmas.{places_more}
use Rattle.trace_verdict.proofs.orders.places_of.Goals as goal

pub loop-entry-preserved : goal.loop-entry-preserved
loop-entry-preserved c =
    places_more c.args.entries.now c.loop-entry.entry-index (record { key = 0; start = 0; place = 0; end = 0 }) c.loop-entry.places.items
    c.push.new.self.items c.loop-entry-test.true
    c.loop-entry.invariant c.in_ok-push.ensures.items

pub returns : goal.returns
returns c = c.loop-entry.invariant ∙ ap places (take_all c.loop-entry.entry-index c.args.entries.now (omega arith))

pub returns-in_err-push : goal.returns-in_err-push
returns-in_err-push c = IfOk-from_err _ _ c.from_residual.ensures.0
