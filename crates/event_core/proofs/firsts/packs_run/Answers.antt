use Rattle.std.proofs.Common.{ap, arith, true, Bool, List, ◌∙◌}
use Rattle.std.proofs.lemmas.List.{length-replicate, with_items_is}
use Rattle.std.proofs.Common.{length, get_or, false}
use Rattle.std.proofs.lemmas.Result.{IfOk-from_err}
use Rattle.event_core.proofs.firsts.packs_run.Goals as goal

pub returns-in_err-runs-clause-long : goal.returns-in_err-runs-clause-long
returns-in_err-runs-clause-long c = IfOk-from_err c.from_residual.result _ c.from_residual.ensures.0

pub returns-in_err-runs-clause-runs : goal.returns-in_err-runs-clause-runs
returns-in_err-runs-clause-runs c = IfOk-from_err c.from_residual.result _ c.from_residual.ensures.0

pub overflow_cast-node_count : goal.overflow_cast-node_count
overflow_cast-node_count c = let fits = c.node_count.type_inv in omega (arith, fits)

pub rest_members-requires : goal.rest_members-requires
rest_members-requires c = ap (λ (xs : List Bool). length xs) (c.deref_mut.ensures.value ∙ c.in_ok-runs.ensures) ∙ length-replicate {A = Bool}
    c.node_count.result true ∙ c.node_count.ensures

pub returns-clause-long : goal.returns-clause-long
returns-clause-long c =
    let old = ap (λ (xs : List Bool). length xs) c.in_ok-runs.ensures ∙ length-replicate {A = Bool} c.node_count.result true ∙ c.node_count.ensures in
    let was = ap (λ (xs : List Bool). length xs) c.deref_mut.ensures.value in
    let same = c.rest_members.auto.runs in
    let ok = c.in_ok-runs.runs.ok.0 in
    let back = with_items_is c.in_ok-runs.runs c.rest_members.new.runs (omega (arith, was, same, ok)) in
    let long = ap (λ (xs : List Bool). length xs) back in
    long ∙ same ∙ was ∙ old

pub returns-clause-runs : goal.returns-clause-runs
returns-clause-runs c = λ x l.
    let was = ap (λ (xs : List Bool). length xs) c.deref_mut.ensures.value in
    let same = c.rest_members.auto.runs in
    let ok = c.in_ok-runs.runs.ok.0 in
    let back = with_items_is c.in_ok-runs.runs c.rest_members.new.runs (omega (arith, was, same, ok)) in
    ap (λ (xs : List Bool). get_or xs x false) back ∙ c.rest_members.ensures x l
