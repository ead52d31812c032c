use Rattle.std.proofs.Common.{◌≡◌, ◌<◌, ◌+◌, ◌∙◌, length, ap, subst, sym, arith}
use Rattle.sched_base.specs.Sets.{SetContents}
use Rattle.run_tree.specs.declared.kinds.Kind.TheVariants as kind
use Rattle.run_tree.specs.Windows.{window_end}
use Rattle.run_tree.specs.Boundaries.{set_boundary}
use Rattle.run_tree.specs.Tree.{Tree, kind_at, is_pack, members, numbers}
use Rattle.run_tree.specs.Plans.{boundary_of}
use Rattle.run_tree.proofs.NodeReads.{member_at, length-members}
use Rattle.run_tree.proofs.NextBoundaries.{IsLeastOf, rank, rank_primal, rank_member, leaf_end_is, dual_end_is, pack_end_is, least_more}
use Rattle.run_tree.proofs.boundaries.+next_boundary.Goals as goal

pub next_boundary-requires : goal.next_boundary-requires
next_boundary-requires t c =
    let is : kind_at c.args.plan.now.tree c.args.n.0 ≡ kind.Dual c.in-Dual.primal = sym (c.in-Dual.ensures ∙ ap (λ (x : Tree). kind_at x c.args.n.0)
    c.tree.ensures.value) in
    let down = rank_primal c.args.plan.now.tree c.tree.ensures.lawful.tree.tree c.args.n.0 c.in-Dual.primal c.requires.node is in
    (omega (arith, down.1, c.decreases), (down.0, c.requires.after))

pub returns-in-Leaf : goal.returns-in-Leaf
returns-in-Leaf t c =
    let is : kind_at c.args.plan.now.tree c.args.n.0 ≡ kind.Leaf c.in-Leaf.leaf = sym (c.in-Leaf.ensures ∙ ap (λ (x : Tree). kind_at x c.args.n.0)
    c.tree.ensures.value) in
    c.leaf_end.ensures
    ∙ ap (λ (s : SetContents). window_end (set_boundary s.tasks c.in-Leaf.leaf) c.args.after) c.set.ensures.value
    ∙ leaf_end_is c.args.plan.now c.tree.ensures.lawful c.args.n.0 c.in-Leaf.leaf c.args.after c.requires.node is

pub returns-in-Dual : goal.returns-in-Dual
returns-in-Dual t c =
    let is : kind_at c.args.plan.now.tree c.args.n.0 ≡ kind.Dual c.in-Dual.primal = sym (c.in-Dual.ensures ∙ ap (λ (x : Tree). kind_at x c.args.n.0)
    c.tree.ensures.value) in
    c.next_boundary.ensures ∙ dual_end_is c.args.plan.now c.tree.ensures.lawful c.args.n.0 c.in-Dual.primal c.args.after c.requires.node is

pub next_boundary-requires-in-loop-member : goal.next_boundary-requires-in-loop-member
next_boundary-requires-in-loop-member t c =
    let is : kind_at c.args.plan.now.tree c.args.n.0 ≡ kind.Pack c.in-Pack.field-0 = sym (c.in-Pack.ensures ∙ ap (λ (x : Tree). kind_at x c.args.n.0)
    c.tree.ensures.value) in
    let all : numbers c.members-member-items.result.now ≡ members c.args.plan.now.tree c.args.n.0 = c.members-member-items.ensures
    ∙ ap (λ (x : Tree). members x c.args.n.0) c.tree-in-Pack.ensures.value in
    let x = member_at c.args.plan.now.tree c.args.n.0 c.loop-member.member-index c.members-member-items.result.now all in
    let k : c.loop-member.member-index < length (members c.args.plan.now.tree c.args.n.0) = omega (
      arith,
      c.loop-member-test.true,
      length-members c.args.plan.now.tree c.args.n.0 c.members-member-items.result.now all,
    ) in
    let down = rank_member c.args.plan.now.tree c.tree.ensures.lawful.tree.tree c.args.n.0 c.loop-member.member-index (c.requires.node, ap is_pack is) k in
    let r = ap (rank c.args.plan.now.tree) x in
    (omega (arith, down.1, r, c.decreases), (omega (arith, down.0, x), c.requires.after))

pub loop-member-preserved : goal.loop-member-preserved
loop-member-preserved t c =
    let all : numbers c.members-member-items.result.now ≡ members c.args.plan.now.tree c.args.n.0 = c.members-member-items.ensures
    ∙ ap (λ (x : Tree). members x c.args.n.0) c.tree-in-Pack.ensures.value in
    let x = member_at c.args.plan.now.tree c.args.n.0 c.loop-member.member-index c.members-member-items.result.now all in
    let found = c.next_boundary-in-loop-member.ensures ∙ ap (λ y. window_end (boundary_of c.args.plan.now y) c.args.after) x in
    subst (λ least. IsLeastOf c.args.plan.now c.args.n.0 c.args.after (c.loop-member.member-index + 1) least) (sym c.min-least.ensures)
    (least_more c.args.plan.now c.tree.ensures.lawful c.args.n.0 c.args.after c.loop-member.member-index c.loop-member.least
    c.next_boundary-in-loop-member.result c.next_boundary-in-loop-member.type_inv found c.loop-member.invariant)

pub returns-after-loop-member : goal.returns-after-loop-member
returns-after-loop-member t c =
    let is : kind_at c.args.plan.now.tree c.args.n.0 ≡ kind.Pack c.in-Pack.field-0 = sym (c.in-Pack.ensures ∙ ap (λ (x : Tree). kind_at x c.args.n.0)
    c.tree.ensures.value) in
    let all : numbers c.members-member-items.result.now ≡ members c.args.plan.now.tree c.args.n.0 = c.members-member-items.ensures
    ∙ ap (λ (x : Tree). members x c.args.n.0) c.tree-in-Pack.ensures.value in
    let e : c.loop-member.member-index ≡ length (members c.args.plan.now.tree c.args.n.0) = omega (
      arith,
      c.loop-member-test.false,
      c.loop-member.auto.member-index-end,
      length-members c.args.plan.now.tree c.args.n.0 c.members-member-items.result.now all,
    ) in
    pack_end_is c.args.plan.now c.tree.ensures.lawful c.args.n.0 c.in-Pack.field-0 c.args.after c.loop-member.least c.requires.node is
    (subst (λ count. IsLeastOf c.args.plan.now c.args.n.0 c.args.after count c.loop-member.least) e c.loop-member.invariant)
