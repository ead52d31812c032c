use Rattle.std.proofs.lemmas.Result.{IfOk-from_err}
use Rattle.std.proofs.Common.{◌≡◌, ◌≤◌, ◌+◌, ◌∷◌, ◌++◌, [], length, subst, sym, ◌∙◌, ap, arith}
use Rattle.std.proofs.lemmas.List.{length-drop}
use Rattle.trace_verdict.specs.Orders.{AreStarts}
use Rattle.trace_verdict.specs.Searches.{AreFirstWithKey}
use Rattle.trace_verdict.proofs.OverlapLemmas.{Rising-from_sorted}
use Rattle.trace_verdict.proofs.StartLemmas.{Started, started_none, started_more, take_rest}
use Rattle.trace_verdict.proofs.orders.starts_of.Goals as goal

pub loop-key-init : goal.loop-key-init
loop-key-init c =
    subst (λ v. Started 0 0 v c.args.entries.now) (sym (c.in_ok-push.ensures.items ∙ ap (λ v. v ++ 0 ∷ []) c.new-starts.ensures.items))
    (started_none c.args.entries.now (Rising-from_sorted _ c.requires.sorted))

pub overflow_add-at : goal.overflow_add-at
overflow_add-at c =
    let most = subst (λ es. c.front_len-at.result ≤ length es) (take_rest c.loop-key.at c.args.entries.now) c.front_len-at.ensures.within in
    omega (arith, most, length-drop c.loop-key.at c.args.entries.now, c.loop-key.invariant.inside, c.requires.few)

pub overflow_cast-at : goal.overflow_cast-at
overflow_cast-at c =
    let most = subst (λ es. c.front_len-at.result ≤ length es) (take_rest c.loop-key.at c.args.entries.now) c.front_len-at.ensures.within in
    omega (arith, most, length-drop c.loop-key.at c.args.entries.now, c.loop-key.invariant.inside, c.requires.few)

pub loop-key-preserved : goal.loop-key-preserved
loop-key-preserved c =
    subst (λ v. Started (c.loop-key.key + 1) (c.loop-key.at + c.front_len-at.result) v c.args.entries.now) (sym c.in_ok-push-2.ensures.items)
    (started_more c.loop-key.key c.loop-key.at c.front_len-at.result c.loop-key.starts.items c.args.entries.now c.loop-key.invariant
    (subst (λ es. AreFirstWithKey c.loop-key.key es c.front_len-at.result) (take_rest c.loop-key.at c.args.entries.now) c.front_len-at.ensures))

pub returns : goal.returns
returns c =
    let all : c.loop-key.key ≡ c.args.count = omega (arith, c.loop-key-test.false, c.loop-key.auto.key-end) in
    subst (λ k. AreStarts k c.loop-key.starts.items c.args.entries.now) all c.loop-key.invariant.before

pub returns-in_err-push : goal.returns-in_err-push
returns-in_err-push c = IfOk-from_err _ _ c.from_residual.ensures.0

pub returns-in_err-push-2 : goal.returns-in_err-push-2
returns-in_err-push-2 c = IfOk-from_err _ _ c.from_residual-in_err-push-2.ensures.0
