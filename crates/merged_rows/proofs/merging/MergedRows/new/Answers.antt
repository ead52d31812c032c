use Rattle.std.proofs.lemmas.Result.{IfOk-from_err}
use Rattle.std.proofs.Common.{◌≡◌, ◌∙◌, ◌∷◌, ◌++◌, [], ap, refl, length, replicate, arith}
use Rattle.std.proofs.lemmas.List.{length-replicate, replicate_more}
use Rattle.merged_rows.specs.Columns.{lanes_up_to}
use Rattle.merged_rows.proofs.ColumnLemmas.{none_up_to}
use Rattle.merged_rows.proofs.merging.MergedRows.new.Goals as goal

pub invariant_of-result : goal.invariant_of-result
invariant_of-result c =
    let count : length c.loop-p.lanes.items ≡ c.loop-p._p = ap length c.loop-p.invariant ∙ length-replicate c.loop-p._p [] in
    omega (arith, count)

pub returns-clause-none : goal.returns-clause-none
returns-clause-none c =
    let all : c.loop-p._p ≡ c.args.processors = omega arith in
    ap (lanes_up_to 0 0) (c.loop-p.invariant ∙ ap (λ n. replicate n []) all) ∙ none_up_to 0 0 c.args.processors

pub loop-p-init : goal.loop-p-init
loop-p-init c = c.new-lanes.ensures.items

pub returns-in_err-push-clause-none : goal.returns-in_err-push-clause-none
returns-in_err-push-clause-none c = IfOk-from_err _ _ c.from_residual.ensures.0

pub returns-in_err-push-clause-start : goal.returns-in_err-push-clause-start
returns-in_err-push-clause-start c = IfOk-from_err _ _ c.from_residual.ensures.0

pub loop-p-preserved : goal.loop-p-preserved
loop-p-preserved c =
    c.in_ok-push.ensures.items ∙ ap (λ lane. c.loop-p.lanes.items ++ lane ∷ []) c.new.ensures ∙ ap (λ lanes. lanes ++ [] ∷ []) c.loop-p.invariant
    ∙ replicate_more c.loop-p._p []

pub returns-clause-start : goal.returns-clause-start
returns-clause-start c = refl
