use Rattle.std.proofs.Common.{◌∙◌, ◌<◌, length, length-set, subst, sym}
use Rattle.run_tree.specs.Tree.{home, members}
use Rattle.run_tree.proofs.NodeReads.{length-members}
use Rattle.part_plans.proofs.Duals.{dual_is, home_is}
use Rattle.part_plans.proofs.NodeLemmas.{member_within}
use Rattle.part_plans.proofs.embedding.embed_pack.Goals as goal

pub members-k-end-requires : goal.members-k-end-requires
members-k-end-requires c = c.requires.own.0

pub members-requires : goal.members-requires
members-requires c = c.requires.whole.0

pub member-requires-clause-node : goal.member-requires-clause-node
member-requires-clause-node c = c.requires.whole.0

pub member-requires-clause-member : goal.member-requires-clause-member
member-requires-clause-member c =
    subst (λ n. c.loop-k.k < n) (length-members c.args.whole.now c.args.q.0 c.members.result.now c.members.ensures) c.if-k-members.true

pub member-requires-then-k-members-clause-node : goal.member-requires-then-k-members-clause-node
member-requires-then-k-members-clause-node c = c.requires.own.0

pub member-requires-then-k-members-clause-member : goal.member-requires-then-k-members-clause-member
member-requires-then-k-members-clause-member c =
    subst (λ n. c.loop-k.k < n) (length-members c.args.own.now c.args.p.0 c.members-k-end.result.now c.members-k-end.ensures) c.loop-k-test.true

pub bounds-onto-member : goal.bounds-onto-member
bounds-onto-member c =
    let within : c.loop-k.k < length (members c.args.own.now c.args.p.0) =
    subst (λ n. c.loop-k.k < n) (length-members c.args.own.now c.args.p.0 c.members-k-end.result.now c.members-k-end.ensures) c.loop-k-test.true in
    member_within c.args.own.now c.args.p.0 c.loop-k.k c.member-then-k-members.result.0 (length c.loop-k.onto) c.know_lawful-2.ensures.lawful.tree
    c.requires.own within c.member-then-k-members.ensures (c.loop-k.auto.onto ∙ c.requires.long)

pub dual-requires : goal.dual-requires
dual-requires c = c.requires.own.0

pub dual-requires-2 : goal.dual-requires-2
dual-requires-2 c = c.requires.whole.0

pub home-requires : goal.home-requires
home-requires c =
    let i = c.in-Some-Some in
    (dual_is c.args.whole.now c.know_lawful.ensures.lawful.tree c.args.q.0 c.requires.whole c.dual-2.result i.e i.is-1 c.dual-2.ensures).0

pub home-requires-in-Some-Some : goal.home-requires-in-Some-Some
home-requires-in-Some-Some c =
    let i = c.in-Some-Some in
    (dual_is c.args.own.now c.know_lawful-2.ensures.lawful.tree c.args.p.0 c.requires.own c.dual.result i.d i.is-0 c.dual.ensures).0

pub bounds-onto-home : goal.bounds-onto-home
bounds-onto-home c =
    let i = c.in-Some-Some in
    let own = c.args.own.now in
    let h = c.know_lawful-2.ensures.lawful.tree in
    let there = (home_is own h i.d.0 (dual_is own h c.args.p.0 c.requires.own c.dual.result i.d i.is-0 c.dual.ensures)).0 in
    subst (λ n. n < length c.loop-k.onto) (sym c.home-in-Some-Some.ensures)
    (subst (λ m. home own i.d.0 < m) (sym (c.loop-k.auto.onto ∙ c.requires.long)) there)

pub returns-in-Some-Some : goal.returns-in-Some-Some
returns-in-Some-Some c = length-set c.loop-k.onto c.home-in-Some-Some.result.0 c.home.result.0 ∙ c.loop-k.auto.onto ∙ c.requires.long

pub returns-after-loop-k : goal.returns-after-loop-k
returns-after-loop-k c = c.loop-k.auto.onto ∙ c.requires.long
