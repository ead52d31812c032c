use Rattle.std.proofs.Common.{◌∙◌, ◌<◌, ap, length, subst, sym}
use Rattle.std.proofs.lemmas.Result.{IfOk-from_err}
use Rattle.run_tree.specs.Schedule.{packs_at}
use Rattle.run_tree.specs.Tree.{IsPack, Tree}
use Rattle.partition_laws.specs.Partitions.{first_pack}
use Rattle.own_plans.proofs.OwnLemmas.{own_found, same_members, some_one}
use Rattle.own_plans.proofs.owns.own_plan.Goals as goal

pub first_pack-pack-requires : goal.first_pack-pack-requires
first_pack-pack-requires c = subst (λ (t : Tree). c.args.i < length (packs_at t 0)) (sym c.tree.ensures.value) c.requires

pub compiled-requires : goal.compiled-requires
compiled-requires c = subst (λ (t : Tree). IsPack t c.first_pack-pack.result.0) c.tree.ensures.value c.first_pack-pack.ensures.pack

pub returns-in_err-plan : goal.returns-in_err-plan
returns-in_err-plan c = IfOk-from_err _ _ c.from_residual.ensures.0

pub is_own-requires-clause-pack : goal.is_own-requires-clause-pack
is_own-requires-clause-pack c = c.requires

pub is_own-requires-clause-scale : goal.is_own-requires-clause-scale
is_own-requires-clause-scale c = c.in-Some-factor_of.ensures

pub first_pack-root-requires : goal.first_pack-root-requires
first_pack-root-requires c =
    subst (λ (t : Tree). 0 < length (packs_at t 0)) (sym c.tree-2.ensures.value)
    (some_one (length (packs_at c.in-Some.plan.tree 0)) (c.is_own.ensures c.if-not-is_own.false).one)

pub leaves_of-requires-clause-whole : goal.leaves_of-requires-clause-whole
leaves_of-requires-clause-whole c =
    subst (λ (t : Tree). IsPack t c.first_pack-pack.result.0) (c.tree.ensures.value ∙ sym c.tree-3.ensures.value) c.first_pack-pack.ensures.pack

pub leaves_of-requires-clause-own : goal.leaves_of-requires-clause-own
leaves_of-requires-clause-own c =
    subst (λ (t : Tree). IsPack t c.first_pack-root.result.0) (c.tree-2.ensures.value ∙ sym c.tree-4.ensures.value) c.first_pack-root.ensures.pack

pub leaves_of-requires-clause-same : goal.leaves_of-requires-clause-same
leaves_of-requires-clause-same c =
    same_members c.args.whole.now c.in-Some.plan c.args.i c.in-Some-factor_of.factor c.tree-3.result.now c.tree-4.result.now c.first_pack-pack.result.0
    c.first_pack-root.result.0
    (c.is_own.ensures c.if-not-is_own.false) c.tree-3.ensures.value c.tree-4.ensures.value
    (c.first_pack-pack.ensures.value ∙ ap (λ (t : Tree). first_pack t c.args.i) c.tree.ensures.value)
    (c.first_pack-root.ensures.value ∙ ap (λ (t : Tree). first_pack t 0) c.tree-2.ensures.value)

pub returns-in_err-leaves : goal.returns-in_err-leaves
returns-in_err-leaves c = IfOk-from_err _ _ c.from_residual-in_err-leaves.ensures.0

pub returns : goal.returns
returns c =
    let told = c.in_ok-leaves.ensures in
    own_found c.args.whole.now c.args.i (record { plan = c.in-Some.plan; factor = c.in-Some-factor_of.factor; leaves = c.in_ok-leaves.leaves })
    c.tree-3.result.now c.tree-4.result.now c.first_pack-pack.result.0 c.first_pack-root.result.0 (c.is_own.ensures c.if-not-is_own.false)
    c.tree-3.ensures.value c.tree-4.ensures.value
    (c.first_pack-pack.ensures.value ∙ ap (λ (t : Tree). first_pack t c.args.i) c.tree.ensures.value)
    (c.first_pack-root.ensures.value ∙ ap (λ (t : Tree). first_pack t 0) c.tree-2.ensures.value) told.long told.leaves
