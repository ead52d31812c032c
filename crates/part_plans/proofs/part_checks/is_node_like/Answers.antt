use Rattle.std.proofs.Common.{◌≡◌, ◌∙◌, ◌<◌, ap, false, get_or, length, subst, sym, true}
use Rattle.std.proofs.lemmas.Bool.{false≢true}
use Rattle.run_tree.specs.Tree.{IsPack, Tree, is_pack, kind_at}
use Rattle.part_plans.specs.Likeness.{IsPackLike}
use Rattle.part_plans.proofs.NodeLikes.{leaf_like, pack_like}
use Rattle.part_plans.proofs.part_checks.is_node_like.Goals as goal

pub bounds-onto-n : goal.bounds-onto-n
bounds-onto-n c = subst (λ n. c.args.n.0 < n) (sym c.requires.long) c.requires.own

pub returns-then-x-nodes : goal.returns-then-x-nodes
returns-then-x-nodes c = λ told. absurd (false≢true told)

pub kind-requires : goal.kind-requires
kind-requires c = subst (λ (t : Tree). c.args.n.0 < length t.nodes) (sym c.tree-2.ensures.value) c.requires.own

pub is_pack_like-requires-clause-whole : goal.is_pack_like-requires-clause-whole
is_pack_like-requires-clause-whole c =
    let x = get_or c.args.onto.now c.args.n.0 0 in
    subst (λ n. x < n) (c.nodes.ensures.value ∙ ap (λ (t : Tree). length t.nodes) (c.tree.ensures.value ∙ sym c.tree-in-Pack.ensures.value)) c.if-x-nodes.false

pub is_pack_like-requires-clause-own : goal.is_pack_like-requires-clause-own
is_pack_like-requires-clause-own c =
    let n = c.args.n.0 in
    let pack : is_pack (kind_at c.args.own.now.tree n) ≡ true =
    ap is_pack (ap (λ (t : Tree). kind_at t n) (sym c.tree-2.ensures.value) ∙ sym c.kind.ensures ∙ c.in-Pack.is) in
    subst (λ (t : Tree). IsPack t n) (sym c.tree-in-Pack-2.ensures.value) (c.requires.own, pack)

pub is_pack_like-requires-clause-long : goal.is_pack_like-requires-clause-long
is_pack_like-requires-clause-long c = c.requires.long ∙ ap (λ (t : Tree). length t.nodes) (sym c.tree-in-Pack-2.ensures.value)

pub are_rates_alike-requires-clause-whole : goal.are_rates_alike-requires-clause-whole
are_rates_alike-requires-clause-whole c =
    let x = get_or c.args.onto.now c.args.n.0 0 in
    subst (λ n. x < n) (c.nodes.ensures.value ∙ ap (λ (t : Tree). length t.nodes) c.tree.ensures.value) c.if-x-nodes.false

pub are_leaves_alike-requires-clause-whole : goal.are_leaves_alike-requires-clause-whole
are_leaves_alike-requires-clause-whole c =
    let x = get_or c.args.onto.now c.args.n.0 0 in
    subst (λ n. x < n) (c.nodes.ensures.value ∙ ap (λ (t : Tree). length t.nodes) c.tree.ensures.value) c.if-x-nodes.false

pub are_rates_alike-requires-in-Dual-clause-whole : goal.are_rates_alike-requires-in-Dual-clause-whole
are_rates_alike-requires-in-Dual-clause-whole c =
    let x = get_or c.args.onto.now c.args.n.0 0 in
    subst (λ n. x < n) (c.nodes.ensures.value ∙ ap (λ (t : Tree). length t.nodes) c.tree.ensures.value) c.if-x-nodes.false

pub returns-in-Pack : goal.returns-in-Pack
returns-in-Pack c = λ told.
    let whole = c.args.whole.now in
    let own = c.args.own.now in
    let n = c.args.n.0 in
    let onto = c.args.onto.now in
    let x = get_or onto n 0 in
    let within : x < length whole.tree.nodes = subst (λ m. x < m) (c.nodes.ensures.value ∙ ap (λ (t : Tree). length t.nodes) c.tree.ensures.value)
    c.if-x-nodes.false in
    let pack : is_pack (kind_at own.tree n) ≡ true =
    ap is_pack (ap (λ (t : Tree). kind_at t n) (sym c.tree-2.ensures.value) ∙ sym c.kind.ensures ∙ c.in-Pack.is) in
    pack_like whole own onto c.args.factor n within pack
    (subst (λ (t : Tree). IsPackLike t own.tree onto x n) c.tree-in-Pack.ensures.value
    (subst (λ (t : Tree). IsPackLike c.tree-in-Pack.result.now t onto x n) c.tree-in-Pack-2.ensures.value (c.is_pack_like.ensures told)))

pub returns-then-are_rates_alike : goal.returns-then-are_rates_alike
returns-then-are_rates_alike c = λ told.
    let whole = c.args.whole.now in
    let own = c.args.own.now in
    let n = c.args.n.0 in
    let x = get_or c.args.onto.now n 0 in
    let within : x < length whole.tree.nodes = subst (λ m. x < m) (c.nodes.ensures.value ∙ ap (λ (t : Tree). length t.nodes) c.tree.ensures.value)
    c.if-x-nodes.false in
    let member : is_pack (kind_at own.tree n) ≡ false =
    ap is_pack (ap (λ (t : Tree). kind_at t n) (sym c.tree-2.ensures.value) ∙ sym c.kind.ensures ∙ c.in-Leaf.is) in
    leaf_like whole own c.args.onto.now c.args.factor n within member (c.are_rates_alike.ensures c.if-are_rates_alike.true) (c.are_leaves_alike.ensures told)

pub returns-else-are_rates_alike : goal.returns-else-are_rates_alike
returns-else-are_rates_alike c = λ told. absurd (false≢true (sym c.if-are_rates_alike.false ∙ told))
