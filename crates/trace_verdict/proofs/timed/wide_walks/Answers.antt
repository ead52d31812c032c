use Rattle.std.proofs.lemmas.Result.{IfOk-from_err}
use Rattle.trace_verdict.specs.ShortWalks.{wide_of}
use Rattle.trace_verdict.proofs.FilledLemmas.{mapped_more, mapped_all}
use Rattle.trace_verdict.proofs.timed.wide_walks.Goals as goal

pub loop-walk-init : goal.loop-walk-init
loop-walk-init c = c.new-all.ensures.items

pub returns-in_err-push : goal.returns-in_err-push
returns-in_err-push c = IfOk-from_err _ _ c.from_residual.ensures.0

pub loop-walk-preserved : goal.loop-walk-preserved
loop-walk-preserved c = mapped_more wide_of c.args.walks.now c.loop-walk.walk-index _ _ _ _ c.loop-walk-test.true c.loop-walk.invariant
    c.in_ok-push.ensures.items c.wide.ensures

pub returns : goal.returns
returns c = mapped_all wide_of c.args.walks.now c.loop-walk.walk-index _ c.loop-walk-test.false c.loop-walk.invariant
