use Rattle.std.proofs.Common.{◌∙◌, map, ap}
use Rattle.std.proofs.lemmas.List.{take_all}
use Rattle.std.proofs.lemmas.Result.{IfOk-from_err}
use Rattle.trace_verdict.specs.ShortWalks.{wide_of}
use Rattle.trace_verdict.proofs.FilledLemmas.{made_more}
use Rattle.trace_verdict.proofs.timed.short_walks.Goals as goal

pub loop-walk-init : goal.loop-walk-init
loop-walk-init c = ap (map wide_of) c.new-all.ensures.items

pub returns-in_err-push : goal.returns-in_err-push
returns-in_err-push c = IfOk-from_err _ _ c.from_residual.ensures.0

pub loop-walk-preserved : goal.loop-walk-preserved
loop-walk-preserved c = made_more wide_of c.args.walks.now c.loop-walk.walk-index _ _ _ _ c.loop-walk-test.true c.loop-walk.invariant
    c.in_ok-push.ensures.items c.in-Some.ensures

pub returns : goal.returns
returns c = c.loop-walk.invariant ∙ take_all c.loop-walk.walk-index c.args.walks.now c.loop-walk-test.false
