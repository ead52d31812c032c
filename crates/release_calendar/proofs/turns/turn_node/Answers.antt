use Rattle.std.proofs.Common.{refl, ap, sym, ◌∙◌, not, arith}
use Rattle.run_tree.specs.Tree.{Tree, is_pack, kind_at}
use Rattle.release_calendar.proofs.TurnLemmas.{no_pack, no_member}
use Rattle.release_calendar.proofs.OrderLemmas.{fit_set, other_at}
use Rattle.release_calendar.proofs.EndLemmas.{end_near, off_is}
use Rattle.release_calendar.proofs.turns.turn_node.Goals as goal

pub returns-then-ends-n-clause-kept : goal.returns-then-ends-n-clause-kept
returns-then-ends-n-clause-kept c = λ member ne. absurd (ne (c.if-ends-n.true ∙ c.from.ensures))

pub returns-then-ends-n-clause-others : goal.returns-then-ends-n-clause-others
returns-then-ends-n-clause-others c = λ x ne. (
  other_at c.args.begins.now c.args.n.0 x c.args.at ne,
  other_at c.args.ends.now c.args.n.0 x
      c.from-then-ends-n.result ne,
)

pub returns-then-ends-n-clause-packs : goal.returns-then-ends-n-clause-packs
returns-then-ends-n-clause-packs c = λ pack. absurd (no_pack _ (sym c.if-is_member.true ∙ c.is_member.ensures
    ∙ ap (λ (t : Tree). not (is_pack (kind_at t c.args.n.0))) c.tree.ensures.value) pack)

pub returns-else-ends-n-clause-turned : goal.returns-else-ends-n-clause-turned
returns-else-ends-n-clause-turned c = λ member at. absurd (c.if-ends-n.false (at ∙ sym c.from.ensures))

pub returns-else-ends-n-clause-kept : goal.returns-else-ends-n-clause-kept
returns-else-ends-n-clause-kept c = λ member ne. (refl, refl)

pub returns-else-ends-n-clause-others : goal.returns-else-ends-n-clause-others
returns-else-ends-n-clause-others c = λ x ne. (refl, refl)

pub returns-else-ends-n-clause-packs : goal.returns-else-ends-n-clause-packs
returns-else-ends-n-clause-packs c = λ pack. refl

pub returns-else-ends-n-clause-fit : goal.returns-else-ends-n-clause-fit
returns-else-ends-n-clause-fit c = λ fit. fit

pub returns-else-is_member-clause-turned : goal.returns-else-is_member-clause-turned
returns-else-is_member-clause-turned c = λ member at. absurd (no_member _ (sym c.if-is_member.false ∙ c.is_member.ensures
    ∙ ap (λ (t : Tree). not (is_pack (kind_at t c.args.n.0))) c.tree.ensures.value) member)

pub returns-else-is_member-clause-kept : goal.returns-else-is_member-clause-kept
returns-else-is_member-clause-kept c = λ member ne. (refl, refl)

pub returns-else-is_member-clause-others : goal.returns-else-is_member-clause-others
returns-else-is_member-clause-others c = λ x ne. (refl, refl)

pub returns-else-is_member-clause-packs : goal.returns-else-is_member-clause-packs
returns-else-is_member-clause-packs c = λ pack. refl

pub returns-else-is_member-clause-fit : goal.returns-else-is_member-clause-fit
returns-else-is_member-clause-fit c = λ fit. fit

pub next_boundary-requires-clause-node : goal.next_boundary-requires-clause-node
next_boundary-requires-clause-node c = c.requires.node

pub next_boundary-requires-clause-after : goal.next_boundary-requires-clause-after
next_boundary-requires-clause-after c = c.requires.at

pub bounds-ends-n : goal.bounds-ends-n
bounds-ends-n c = let b = c.requires.node in let long = c.requires.ends in omega (arith, b, long)

pub bounds-begins-n : goal.bounds-begins-n
bounds-begins-n c = let b = c.requires.node in let long = c.requires.begins in omega (arith, b, long)

pub bounds-ends-n-then-ends-n : goal.bounds-ends-n-then-ends-n
bounds-ends-n-then-ends-n c = let b = c.requires.node in let long = c.requires.ends in omega (arith, b, long)

pub returns-then-ends-n-clause-fit : goal.returns-then-ends-n-clause-fit
returns-then-ends-n-clause-fit c = λ fit.
    let e = c.from-then-ends-n.ensures in
    let is = c.next_boundary.ensures in
    let member = off_is _ (sym (c.is_member.ensures ∙ ap (λ (t : Tree). not (is_pack (kind_at t c.args.n.0))) c.tree.ensures.value) ∙ c.if-is_member.true) in
    let near = end_near c.args.plan.now c.tree.ensures.lawful c.args.n.0 c.args.at (c.requires.node, member) c.requires.at in
    let b = c.requires.node in
    let long = c.requires.ends in
    fit_set c.args.ends.now c.args.n.0 c.from-then-ends-n.result fit (omega (arith, e, is, near)) (omega (arith, b, long))
