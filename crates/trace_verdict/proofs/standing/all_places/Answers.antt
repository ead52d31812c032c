use Rattle.std.proofs.lemmas.Result.{IfOk-from_err}
use Rattle.std.proofs.Common.{◌∷◌, ◌++◌, [], ap, ◌∙◌, arith}
use Rattle.std.proofs.lemmas.List.{take_all}
use Rattle.sched_base.specs.declared.rows.Leaf.TheVariants as leaves
use Rattle.trace_verdict.specs.Orders.{processor_key, entries_from, places}
use Rattle.trace_verdict.proofs.StandingLemmas.{place_more}
use Rattle.trace_verdict.proofs.standing.all_places.Goals as goal

pub loop-i-preserved : goal.loop-i-preserved
loop-i-preserved c =
    c.in_ok-push.ensures.items ∙ (ap (λ ps. ps ++ c.loop-i.i ∷ []) c.loop-i.invariant ∙ place_more c.args.rows.now c.loop-i.i
    (record { processor = 0; start = 0; end = 0; leaf = leaves.Task (record { 0 = 0 }) }) (omega (arith, c.loop-i-test.true, c.len-i-end.ensures)))

pub returns : goal.returns
returns c = c.loop-i.invariant ∙ ap (λ rows. places (entries_from processor_key 0 rows)) (take_all c.loop-i.i c.args.rows.now (omega arith))

pub returns-in_err-places : goal.returns-in_err-places
returns-in_err-places c = IfOk-from_err _ _ c.from_residual.ensures.0

pub returns-in_err-push : goal.returns-in_err-push
returns-in_err-push c = IfOk-from_err _ _ c.from_residual-in_err-push.ensures.0
