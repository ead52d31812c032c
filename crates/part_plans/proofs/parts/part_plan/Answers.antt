use Rattle.std.proofs.Common.{◌∙◌, List, ap, get_or, length, subst, sym, ℕ}
use Rattle.std.proofs.lemmas.Result.{IfOk-from_err}
use Rattle.run_tree.specs.Tree.{Tree}
use Rattle.partition_laws.specs.Parts.{IsPartPlan}
use Rattle.part_plans.specs.declared.parts.PartPlan.{PartPlan}
use Rattle.part_plans.proofs.PartLemmas.{AreFirst, AreNodes, packs_moved, part_found, shown_moved}
use Rattle.part_plans.proofs.parts.part_plan.Goals as goal

pub packs_of-requires : goal.packs_of-requires
packs_of-requires c = c.requires ∙ ap (λ (t : Tree). length t.nodes) (sym c.tree.ensures.value)

pub returns-in_err-packs : goal.returns-in_err-packs
returns-in_err-packs c = IfOk-from_err _ _ c.from_residual.ensures.0

pub compiled-requires : goal.compiled-requires
compiled-requires c =
    subst (AreFirst c.args.whole.now.tree) (sym c.deref.ensures.value) (subst (λ (t : Tree). AreFirst t c.in_ok-packs.packs.items) c.tree.ensures.value
    c.in_ok-packs.ensures)

pub returns-in_err-plan : goal.returns-in_err-plan
returns-in_err-plan c = IfOk-from_err _ _ c.from_residual-in_err-plan.ensures.0

pub embedding-requires : goal.embedding-requires
embedding-requires c =
    subst (AreFirst c.tree-2.result.now) (sym c.deref-2.ensures.value)
    (subst (λ (t : Tree). AreFirst t c.in_ok-packs.packs.items) (c.tree.ensures.value ∙ sym c.tree-2.ensures.value) c.in_ok-packs.ensures)

pub returns-in_err-onto : goal.returns-in_err-onto
returns-in_err-onto c = IfOk-from_err _ _ c.from_residual-in_err-onto.ensures.0

pub is_part-requires-clause-long : goal.is_part-requires-clause-long
is_part-requires-clause-long c = ap length c.deref-3.ensures.value ∙ c.in_ok-onto.ensures ∙ ap (λ (t : Tree). length t.nodes) c.tree-3.ensures.value

pub is_part-requires-clause-scale : goal.is_part-requires-clause-scale
is_part-requires-clause-scale c = c.in-Some-factor_of.ensures

pub are_packs_like-requires-clause-long : goal.are_packs_like-requires-clause-long
are_packs_like-requires-clause-long c =
    ap length c.deref-else-not-is_part.ensures.value ∙ c.in_ok-onto.ensures
    ∙ ap (λ (t : Tree). length t.nodes) (c.tree-3.ensures.value ∙ sym c.tree-else-not-is_part-2.ensures.value)

pub are_packs_like-requires-clause-packs : goal.are_packs_like-requires-clause-packs
are_packs_like-requires-clause-packs c =
    subst (AreFirst c.tree-else-not-is_part.result.now) (sym c.deref-else-not-is_part-2.ensures.value)
    (subst (λ (t : Tree). AreFirst t c.in_ok-packs.packs.items) (c.tree.ensures.value ∙ sym c.tree-else-not-is_part.ensures.value) c.in_ok-packs.ensures)

pub leaves_of-requires : goal.leaves_of-requires
leaves_of-requires c =
    subst (λ (xs : List ℕ). AreNodes c.tree-4.result.now xs) (c.deref-3.ensures.value ∙ sym c.deref-4.ensures.value)
    (subst (λ (t : Tree). AreNodes t c.deref-3.result.now) (sym c.tree-4.ensures.value) (c.is_part.ensures.within c.if-not-is_part.false))

pub returns-in_err-leaves : goal.returns-in_err-leaves
returns-in_err-leaves c = IfOk-from_err _ _ c.from_residual-in_err-leaves.ensures.0

pub returns : goal.returns
returns c =
    let whole = c.args.whole.now in
    let plan = c.in-Some.plan in
    let factor = c.in-Some-factor_of.factor in
    let onto = c.in_ok-onto.onto in
    let leaves = c.in_ok-leaves.leaves in
    let packs = c.in_ok-packs.packs in
    let found : PartPlan = record { plan = plan; factor = factor; onto = onto; leaves = leaves; packs = packs } in
    let told = c.in_ok-leaves.ensures in
    part_found whole found
    (subst (λ (xs : List ℕ). IsPartPlan whole plan (λ x. get_or xs x 0) factor) c.deref-3.ensures.value (c.is_part.ensures.part c.if-not-is_part.false))
    (c.in_ok-onto.ensures ∙ ap (λ (t : Tree). length t.nodes) c.tree-3.ensures.value)
    (shown_moved c.tree-4.result.now whole.tree c.deref-4.result.now onto.items leaves.items
    c.tree-4.ensures.value c.deref-4.ensures.value (told.long, told.leaves))
    (packs_moved c.tree-else-not-is_part.result.now c.tree-else-not-is_part-2.result.now whole.tree plan.tree
    c.deref-else-not-is_part.result.now c.deref-else-not-is_part-2.result.now onto.items packs.items
    c.tree-else-not-is_part.ensures.value c.tree-else-not-is_part-2.ensures.value
    c.deref-else-not-is_part.ensures.value c.deref-else-not-is_part-2.ensures.value (c.are_packs_like.ensures c.if-not-are_packs_like.false))
    (subst (λ (t : Tree). AreFirst t packs.items) c.tree.ensures.value c.in_ok-packs.ensures)
