use Rattle.std.proofs.Common.{◌≡◌, ◌∙◌, ap, sym}
use Rattle.run_tree.specs.declared.kinds.Kind.TheVariants as kind
use Rattle.run_tree.specs.Tree.{Tree, kind_at}
use Rattle.run_tree.proofs.NextBoundaries.{dual_end_is}
use Rattle.release_calendar.proofs.EndLemmas.{primal_pack}
use Rattle.release_calendar.proofs.next_ends.end_from.Goals as goal

pub pack_end-requires-clause-pack : goal.pack_end-requires-clause-pack
pack_end-requires-clause-pack c =
    let is : kind_at c.args.plan.now.tree c.args.n.0 ≡ kind.Dual c.in-Dual.primal = sym (c.in-Dual.ensures ∙ ap (λ (t : Tree). kind_at t c.args.n.0)
    c.tree.ensures.value) in
    primal_pack c.args.plan.now c.requires.plan c.args.n.0 c.in-Dual.primal c.requires.member.0 is

pub returns-in-Dual : goal.returns-in-Dual
returns-in-Dual c =
    let is : kind_at c.args.plan.now.tree c.args.n.0 ≡ kind.Dual c.in-Dual.primal = sym (c.in-Dual.ensures ∙ ap (λ (t : Tree). kind_at t c.args.n.0)
    c.tree.ensures.value) in
    c.pack_end.ensures ∙ dual_end_is c.args.plan.now c.requires.plan c.args.n.0 c.in-Dual.primal c.args.at c.requires.member.0 is

pub leaf_end-requires-clause-plan : goal.leaf_end-requires-clause-plan
leaf_end-requires-clause-plan c = c.requires.plan

pub leaf_end-requires-clause-member : goal.leaf_end-requires-clause-member
leaf_end-requires-clause-member c = c.requires.member

pub leaf_end-requires-clause-leaf : goal.leaf_end-requires-clause-leaf
leaf_end-requires-clause-leaf c = sym (c.in-Leaf.ensures ∙ ap (λ (t : Tree). kind_at t c.args.n.0) c.tree.ensures.value)

pub leaf_end-requires-clause-at : goal.leaf_end-requires-clause-at
leaf_end-requires-clause-at c = c.requires.at

pub leaf_end-requires-clause-begins : goal.leaf_end-requires-clause-begins
leaf_end-requires-clause-begins c = c.requires.begins

pub next_boundary-requires-clause-node : goal.next_boundary-requires-clause-node
next_boundary-requires-clause-node c = c.requires.member.0

pub next_boundary-requires-clause-after : goal.next_boundary-requires-clause-after
next_boundary-requires-clause-after c = c.requires.at

pub pack_end-requires-clause-plan : goal.pack_end-requires-clause-plan
pack_end-requires-clause-plan c = c.requires.plan

pub pack_end-requires-clause-at : goal.pack_end-requires-clause-at
pack_end-requires-clause-at c = c.requires.at

pub pack_end-requires-clause-ends : goal.pack_end-requires-clause-ends
pack_end-requires-clause-ends c = c.requires.ends

pub pack_end-requires-clause-known : goal.pack_end-requires-clause-known
pack_end-requires-clause-known c = c.requires.known

pub returns-in-Leaf : goal.returns-in-Leaf
returns-in-Leaf c = c.leaf_end.ensures

pub returns-in-Pack : goal.returns-in-Pack
returns-in-Pack c = c.next_boundary.ensures
