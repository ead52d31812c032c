use Rattle.std.proofs.Common.{◌≡◌, ◌∙◌, ◌<◌, ap, below_more, get_or, length, subst, sym}
use Rattle.std.proofs.lemmas.Bool.{false≢true}
use Rattle.run_tree.specs.Tree.{member, members}
use Rattle.run_tree.proofs.NodeReads.{length-members}
use Rattle.part_plans.proofs.NodeLemmas.{below_end, member_within}
use Rattle.part_plans.proofs.likeness.are_members_like.Goals as goal

pub members-count-requires : goal.members-count-requires
members-count-requires c = c.requires.own.0

pub members-requires : goal.members-requires
members-requires c = c.requires.whole.0

pub returns-then-members-count : goal.returns-then-members-count
returns-then-members-count c = λ told. absurd (false≢true told)

pub member-requires-clause-node : goal.member-requires-clause-node
member-requires-clause-node c = c.requires.whole.0

pub member-requires-clause-member : goal.member-requires-clause-member
member-requires-clause-member c =
    subst (λ n. c.loop-k.k < n) (sym c.if-members-count.false ∙ length-members c.args.whole.now c.args.q.0 c.members.result.now c.members.ensures)
    c.loop-k-test.true

pub member-requires-in-loop-k-clause-node : goal.member-requires-in-loop-k-clause-node
member-requires-in-loop-k-clause-node c = c.requires.own.0

pub member-requires-in-loop-k-clause-member : goal.member-requires-in-loop-k-clause-member
member-requires-in-loop-k-clause-member c =
    subst (λ n. c.loop-k.k < n) (length-members c.args.own.now c.args.p.0 c.members-count.result.now c.members-count.ensures) c.loop-k-test.true

pub bounds-onto-member : goal.bounds-onto-member
bounds-onto-member c =
    let within : c.loop-k.k < length (members c.args.own.now c.args.p.0) =
    subst (λ n. c.loop-k.k < n) (length-members c.args.own.now c.args.p.0 c.members-count.result.now c.members-count.ensures) c.loop-k-test.true in
    member_within c.args.own.now c.args.p.0 c.loop-k.k c.member-in-loop-k.result.0 (length c.args.onto.now) c.know_lawful-2.ensures.lawful.tree
    c.requires.own within c.member-in-loop-k.ensures c.requires.long

pub returns-then-member-onto : goal.returns-then-member-onto
returns-then-member-onto c = λ told. absurd (false≢true told)

pub loop-k-preserved : goal.loop-k-preserved
loop-k-preserved c =
    below_more (λ k. member c.args.whole.now c.args.q.0 k ≡ get_or c.args.onto.now (member c.args.own.now c.args.p.0 k) 0) c.loop-k.k c.loop-k.invariant
    (sym c.member.ensures ∙ c.if-member-onto.false ∙ ap (λ n. get_or c.args.onto.now n 0) c.member-in-loop-k.ensures)

pub returns : goal.returns
returns c =
    let own = length-members c.args.own.now c.args.p.0 c.members-count.result.now c.members-count.ensures in
    λ _. record {
      same = sym (length-members c.args.whole.now c.args.q.0 c.members.result.now c.members.ensures) ∙ c.if-members-count.false ∙ own;
      each = λ k l. c.loop-k.invariant k (below_end k (length (members c.args.own.now c.args.p.0)) (length c.members-count.result.now) c.loop-k.k l own
          c.loop-k-test.false);
    }
