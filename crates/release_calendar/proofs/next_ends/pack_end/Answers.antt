use Rattle.std.proofs.Common.{◌≡◌, ◌<◌, ◌+◌, ◌∙◌, ℕ, length, ap, subst, sym, arith}
use Rattle.run_tree.specs.Windows.{window_end}
use Rattle.run_tree.specs.Tree.{IsMember, Tree, members, numbers}
use Rattle.run_tree.specs.Plans.{boundary_of}
use Rattle.run_tree.proofs.NodeReads.{member_at, length-members}
use Rattle.run_tree.proofs.NextBoundaries.{IsLeastOf, least_more}
use Rattle.release_calendar.proofs.EndLemmas.{first_is}
use Rattle.release_calendar.proofs.next_ends.pack_end.Goals as goal

pub member_end-requires-clause-member : goal.member_end-requires-clause-member
member_end-requires-clause-member c =
    let p = c.args.plan.now in
    let all : numbers c.members-member-items.result.now ≡ members p.tree c.args.p.0 = c.members-member-items.ensures
    ∙ ap (λ (t : Tree). members t c.args.p.0) c.tree.ensures.value in
    let k : c.loop-member.member-index < length (members p.tree c.args.p.0) = omega (
      arith,
      c.loop-member-test.true,
      length-members p.tree c.args.p.0
          c.members-member-items.result.now all,
    ) in
    let P : ℕ → Type 0 = λ m. IsMember p.tree m in
    subst P (sym (member_at p.tree c.args.p.0 c.loop-member.member-index c.members-member-items.result.now all)) (c.requires.plan.tree.tree.members_are
    c.args.p.0 c.loop-member.member-index c.requires.pack k).0

pub loop-member-preserved : goal.loop-member-preserved
loop-member-preserved c =
    let p = c.args.plan.now in
    let all : numbers c.members-member-items.result.now ≡ members p.tree c.args.p.0 = c.members-member-items.ensures
    ∙ ap (λ (t : Tree). members t c.args.p.0) c.tree.ensures.value in
    let x = member_at p.tree c.args.p.0 c.loop-member.member-index c.members-member-items.result.now all in
    let found = c.member_end.ensures ∙ ap (λ y. window_end (boundary_of p y) c.args.at) x in
    subst (λ least. IsLeastOf p c.args.p.0 c.args.at (c.loop-member.member-index + 1) least) (sym c.min-first.ensures)
    (least_more p c.requires.plan c.args.p.0 c.args.at c.loop-member.member-index c.loop-member.first c.member_end.result c.member_end.type_inv found
    c.loop-member.invariant)

pub returns : goal.returns
returns c =
    let p = c.args.plan.now in
    let all : numbers c.members-member-items.result.now ≡ members p.tree c.args.p.0 = c.members-member-items.ensures
    ∙ ap (λ (t : Tree). members t c.args.p.0) c.tree.ensures.value in
    let e : c.loop-member.member-index ≡ length (members p.tree c.args.p.0) = omega (
      arith,
      c.loop-member-test.false,
      c.loop-member.auto.member-index-end,
      length-members p.tree c.args.p.0 c.members-member-items.result.now all,
    ) in
    first_is p c.requires.plan c.args.p.0 c.args.at c.loop-member.first c.requires.pack
    (subst (λ count. IsLeastOf p c.args.p.0 c.args.at count c.loop-member.first) e c.loop-member.invariant)

pub member_end-requires-clause-plan : goal.member_end-requires-clause-plan
member_end-requires-clause-plan c = c.requires.plan

pub member_end-requires-clause-at : goal.member_end-requires-clause-at
member_end-requires-clause-at c = c.requires.at

pub member_end-requires-clause-ends : goal.member_end-requires-clause-ends
member_end-requires-clause-ends c = c.requires.ends

pub member_end-requires-clause-known : goal.member_end-requires-clause-known
member_end-requires-clause-known c = c.requires.known

pub members-member-items-requires : goal.members-member-items-requires
members-member-items-requires c = let b = c.requires.pack.0 in let same = ap (λ (t : Tree). length t.nodes) c.tree.ensures.value in omega (arith, b, same)
