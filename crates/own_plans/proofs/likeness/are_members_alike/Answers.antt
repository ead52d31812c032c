use Rattle.std.proofs.Common.{below_more, ◌∙◌, ◌<◌, ℕ, length, subst, sym}
use Rattle.std.proofs.lemmas.Bool.{false≢true}
use Rattle.run_tree.specs.Tree.{Tree, members}
use Rattle.part_plans.proofs.NodeLemmas.{below_end}
use Rattle.own_plans.proofs.LikeMembers.{AreAlikeAt, alike_at, count_is, member_node, place_in}
use Rattle.own_plans.proofs.likeness.are_members_alike.Goals as goal

pub members-count-requires : goal.members-count-requires
members-count-requires c = subst (λ (t : Tree). c.args.q.0 < length t.nodes) (sym c.tree.ensures.value) c.requires.own.0

pub members-requires : goal.members-requires
members-requires c = subst (λ (t : Tree). c.args.p.0 < length t.nodes) (sym c.tree-2.ensures.value) c.requires.whole.0

pub returns-then-members-count : goal.returns-then-members-count
returns-then-members-count c = λ told. absurd (false≢true told)

pub member-x-requires-clause-node : goal.member-x-requires-clause-node
member-x-requires-clause-node c = subst (λ (t : Tree). c.args.p.0 < length t.nodes) (sym c.tree-in-loop-k.ensures.value) c.requires.whole.0

pub member-x-requires-clause-member : goal.member-x-requires-clause-member
member-x-requires-clause-member c =
    place_in c.tree-2.result.now c.args.whole.now.tree c.tree-2.ensures.value c.args.p.0 c.members.result.now c.members.ensures
    c.tree-in-loop-k.result.now c.tree-in-loop-k.ensures.value c.loop-k.k (subst (λ n. c.loop-k.k < n) (sym c.if-members-count.false) c.loop-k-test.true)

pub member-y-requires-clause-node : goal.member-y-requires-clause-node
member-y-requires-clause-node c = subst (λ (t : Tree). c.args.q.0 < length t.nodes) (sym c.tree-in-loop-k-2.ensures.value) c.requires.own.0

pub member-y-requires-clause-member : goal.member-y-requires-clause-member
member-y-requires-clause-member c =
    place_in c.tree.result.now c.args.own.now.tree c.tree.ensures.value c.args.q.0 c.members-count.result.now c.members-count.ensures
    c.tree-in-loop-k-2.result.now c.tree-in-loop-k-2.ensures.value c.loop-k.k c.loop-k-test.true

pub are_alike-requires-clause-whole : goal.are_alike-requires-clause-whole
are_alike-requires-clause-whole c =
    let whole = c.args.whole.now.tree in
    member_node whole c.tree-in-loop-k.result.now c.tree-in-loop-k.ensures.value c.args.p.0 c.loop-k.k c.member-x.result.0
    c.know_lawful.ensures.lawful.tree.tree c.requires.whole
    (place_in c.tree-2.result.now whole c.tree-2.ensures.value c.args.p.0 c.members.result.now c.members.ensures
    c.tree-in-loop-k.result.now c.tree-in-loop-k.ensures.value c.loop-k.k (subst (λ n. c.loop-k.k < n) (sym c.if-members-count.false) c.loop-k-test.true))
    c.member-x.ensures

pub are_alike-requires-clause-own : goal.are_alike-requires-clause-own
are_alike-requires-clause-own c =
    let own = c.args.own.now.tree in
    member_node own c.tree-in-loop-k-2.result.now c.tree-in-loop-k-2.ensures.value c.args.q.0 c.loop-k.k c.member-y.result.0
    c.know_lawful-2.ensures.lawful.tree.tree c.requires.own
    (place_in c.tree.result.now own c.tree.ensures.value c.args.q.0 c.members-count.result.now c.members-count.ensures
    c.tree-in-loop-k-2.result.now c.tree-in-loop-k-2.ensures.value c.loop-k.k c.loop-k-test.true)
    c.member-y.ensures

pub are_alike-requires-clause-scale : goal.are_alike-requires-clause-scale
are_alike-requires-clause-scale c = c.requires.scale

pub returns-then-not-are_alike : goal.returns-then-not-are_alike
returns-then-not-are_alike c = λ told. absurd (false≢true told)

pub loop-k-preserved : goal.loop-k-preserved
loop-k-preserved c =
    let whole = c.args.whole.now in
    let own = c.args.own.now in
    below_more (AreAlikeAt whole own c.args.p.0 c.args.q.0 c.args.factor) c.loop-k.k c.loop-k.invariant
    (alike_at whole own c.args.p.0 c.args.q.0 c.args.factor c.loop-k.k c.tree-in-loop-k.result.now c.tree-in-loop-k-2.result.now c.member-x.result.0
    c.member-y.result.0
    c.tree-in-loop-k.ensures.value c.tree-in-loop-k-2.ensures.value c.member-x.ensures c.member-y.ensures
    (c.are_alike.ensures.rates c.if-not-are_alike.false) (c.are_alike.ensures.leaves c.if-not-are_alike.false))

pub returns : goal.returns
returns c =
    let whole = c.args.whole.now.tree in
    let own = c.args.own.now.tree in
    let all = count_is c.tree.result.now own c.tree.ensures.value c.args.q.0 c.members-count.result.now c.members-count.ensures in
    let within = λ (k : ℕ) (l : k < length (members own c.args.q.0)).
    below_end k (length (members own c.args.q.0)) (length c.members-count.result.now) c.loop-k.k l all c.loop-k-test.false in
    λ _. record {
      same = sym all ∙ sym c.if-members-count.false ∙ count_is c.tree-2.result.now whole c.tree-2.ensures.value c.args.p.0 c.members.result.now
          c.members.ensures;
      rates = λ k l. (c.loop-k.invariant k (within k l)).0;
      alike = λ k l. (c.loop-k.invariant k (within k l)).1;
    }
