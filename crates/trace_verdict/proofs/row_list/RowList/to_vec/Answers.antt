use Rattle.std.proofs.Common.{◌<◌, ◌≤◌, subst}
use Rattle.std.proofs.lemmas.Result.{IfOk-from_err}
use Rattle.trace_verdict.proofs.FilledLemmas.{copied_more, copied_all}
use Rattle.trace_verdict.proofs.row_list.RowList.to_vec.Goals as goal

pub returns-in_err-rows : goal.returns-in_err-rows
returns-in_err-rows c = IfOk-from_err _ _ c.from_residual.ensures.0

pub loop-i-init : goal.loop-i-init
loop-i-init c = c.in_ok-rows.ensures.items

pub get-requires : goal.get-requires
get-requires c = subst (λ n. c.loop-i.i < n) c.len-i-end.ensures c.loop-i-test.true

pub returns-in_err-push : goal.returns-in_err-push
returns-in_err-push c = IfOk-from_err _ _ c.from_residual-in_err-push.ensures.0

pub loop-i-preserved : goal.loop-i-preserved
loop-i-preserved c = copied_more c.args.self.now c.loop-i.i _ _ _ _ (subst (λ n. c.loop-i.i < n) c.len-i-end.ensures c.loop-i-test.true) c.loop-i.invariant
    c.in_ok-push.ensures.items c.get.ensures

pub returns : goal.returns
returns c = copied_all c.args.self.now c.loop-i.i _ (subst (λ n. n ≤ c.loop-i.i) c.len-i-end.ensures c.loop-i-test.false) c.loop-i.invariant
