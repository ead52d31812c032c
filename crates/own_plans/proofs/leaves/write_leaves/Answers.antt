use Rattle.std.proofs.Common.{◌<◌, ◌∙◌, ap, length, length-set, refl, subst}
use Rattle.run_tree.specs.Tree.{leaf, members}
use Rattle.run_tree.proofs.NodeReads.{length-members}
use Rattle.part_plans.proofs.NodeLemmas.{below_end, member_within}
use Rattle.own_plans.proofs.LeafLemmas.{one_more}
use Rattle.own_plans.proofs.leaves.write_leaves.Goals as goal

pub members-k-end-requires : goal.members-k-end-requires
members-k-end-requires c = c.requires.own.0

pub member-requires-clause-node : goal.member-requires-clause-node
member-requires-clause-node c = c.requires.whole.0

pub member-requires-clause-member : goal.member-requires-clause-member
member-requires-clause-member c =
    subst (λ n. c.loop-k.k < n) (length-members c.args.own.now c.args.q.0 c.members-k-end.result.now c.members-k-end.ensures ∙ c.requires.same)
    c.loop-k-test.true

pub leaf_of-requires : goal.leaf_of-requires
leaf_of-requires c =
    let whole = c.args.whole.now in
    let within : c.loop-k.k < length (members whole c.args.p.0) =
    subst (λ n. c.loop-k.k < n) (length-members c.args.own.now c.args.q.0 c.members-k-end.result.now c.members-k-end.ensures ∙ c.requires.same)
    c.loop-k-test.true in
    member_within whole c.args.p.0 c.loop-k.k c.member.result.0 (length whole.nodes) c.know_lawful.ensures.lawful.tree c.requires.whole within
    c.member.ensures refl

pub member-requires-in-loop-k-clause-node : goal.member-requires-in-loop-k-clause-node
member-requires-in-loop-k-clause-node c = c.requires.own.0

pub member-requires-in-loop-k-clause-member : goal.member-requires-in-loop-k-clause-member
member-requires-in-loop-k-clause-member c =
    subst (λ n. c.loop-k.k < n) (length-members c.args.own.now c.args.q.0 c.members-k-end.result.now c.members-k-end.ensures) c.loop-k-test.true

pub bounds-leaves-member : goal.bounds-leaves-member
bounds-leaves-member c =
    let own = c.args.own.now in
    let within : c.loop-k.k < length (members own c.args.q.0) =
    subst (λ n. c.loop-k.k < n) (length-members own c.args.q.0 c.members-k-end.result.now c.members-k-end.ensures) c.loop-k-test.true in
    member_within own c.args.q.0 c.loop-k.k c.member-in-loop-k.result.0 (length c.loop-k.leaves) c.know_lawful-2.ensures.lawful.tree
    c.requires.own within c.member-in-loop-k.ensures c.loop-k.invariant.0

pub loop-k-preserved : goal.loop-k-preserved
loop-k-preserved c =
    let whole = c.args.whole.now in
    let own = c.args.own.now in
    let leaves = c.loop-k.leaves in
    let within : c.loop-k.k < length (members own c.args.q.0) = subst (λ n. c.loop-k.k < n) (length-members own c.args.q.0 c.members-k-end.result.now
    c.members-k-end.ensures) c.loop-k-test.true in (
      length-set leaves c.member-in-loop-k.result.0 c.leaf_of.result ∙ c.loop-k.invariant.0,
      one_more whole own c.know_lawful-2.ensures.lawful.tree c.args.p.0 c.args.q.0 c.requires.own c.loop-k.k c.member-in-loop-k.result.0 within
          c.member-in-loop-k.ensures
          leaves c.leaf_of.result c.loop-k.invariant.0 c.loop-k.invariant.1 (c.leaf_of.ensures ∙ ap (leaf whole) c.member.ensures),
    )

pub returns : goal.returns
returns c = λ k l.
    let own = length-members c.args.own.now c.args.q.0 c.members-k-end.result.now c.members-k-end.ensures in
    c.loop-k.invariant.1 k (below_end k (length (members c.args.own.now c.args.q.0)) (length c.members-k-end.result.now) c.loop-k.k l own c.loop-k-test.false)
