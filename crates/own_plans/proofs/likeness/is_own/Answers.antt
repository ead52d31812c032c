use Rattle.std.proofs.Common.{◌∙◌, ◌<◌, length, subst, sym}
use Rattle.run_tree.specs.Schedule.{packs_at}
use Rattle.run_tree.specs.Tree.{IsPack, Tree}
use Rattle.own_plans.proofs.OwnLemmas.{own_is, some_one}
use Rattle.own_plans.proofs.likeness.is_own.Goals as goal

pub first_pack-requires : goal.first_pack-requires
first_pack-requires c = subst (λ (t : Tree). c.args.i < length (packs_at t 0)) (sym c.tree.ensures.value) c.requires.pack

pub first_pack-requires-2 : goal.first_pack-requires-2
first_pack-requires-2 c = some_one (length (packs_at c.tree-tree.result.now 0)) (sym c.first_packs.ensures ∙ c.if-first_packs-ne1.false)

pub are_members_alike-requires-clause-whole : goal.are_members_alike-requires-clause-whole
are_members_alike-requires-clause-whole c = subst (λ (t : Tree). IsPack t c.first_pack.result.0) c.tree.ensures.value c.first_pack.ensures.pack

pub are_members_alike-requires-clause-own : goal.are_members_alike-requires-clause-own
are_members_alike-requires-clause-own c = subst (λ (t : Tree). IsPack t c.first_pack-2.result.0) c.tree-tree.ensures.value c.first_pack-2.ensures.pack

pub are_members_alike-requires-clause-scale : goal.are_members_alike-requires-clause-scale
are_members_alike-requires-clause-scale c = c.requires.scale

pub returns : goal.returns
returns c = λ told.
    own_is c.args.whole.now c.args.own.now c.args.i c.args.factor c.tree.result.now c.tree-tree.result.now c.first_pack.result.0 c.first_pack-2.result.0
    c.know_lawful.ensures.lawful.tree.tree.scaled c.requires.pack c.requires.scale c.requires.horizon c.tree.ensures.value c.tree-tree.ensures.value
    c.first_pack.ensures.value c.first_pack-2.ensures.value (sym c.first_packs.ensures ∙ c.if-first_packs-ne1.false)
    (c.is_partitioned.ensures c.if-not-is_partitioned.false) (c.are_members_alike.ensures told)
