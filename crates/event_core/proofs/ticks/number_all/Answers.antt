use Rattle.std.proofs.Common.{◌∙◌, ℕ, ◌+◌, ◌<◌, ap, arith, length, subst, sym}
use Rattle.event_core.proofs.TickLemmas.{AreNumbered, all_numbered, member_numbered, none_by, none_numbered, pack_numbered}
use Rattle.std.proofs.Math.ListN.{set}
use Rattle.event_core.proofs.ticks.number_all.Goals as goal
use Rattle.event_core.proofs.ticks.number_all.Goals.{then-is_member, else-is_member}

pub loop-x-init : goal.loop-x-init
loop-x-init c = none_numbered c.args.number.now c.args.nodes.now c.nodes-back.result (length c.args.tree.now.nodes) c.nodes-back.ensures.value
    c.requires.number c.requires.nodes

pub is_member-requires : goal.is_member-requires
is_member-requires c = let on = c.loop-x-test.true in let value = c.nodes-x-end.ensures.value in omega (arith, on, value)

pub stand-requires-clause-node : goal.stand-requires-clause-node
stand-requires-clause-node c = let long = c.loop-x.invariant.number_long in let on = c.loop-x-test.true in let value = c.nodes-x-end.ensures.value in
    omega (arith, long, on, value)

pub stand-requires-else-is_member-clause-node : goal.stand-requires-else-is_member-clause-node
stand-requires-else-is_member-clause-node c = let long = c.loop-x.invariant.number_long in let on = c.loop-x-test.true in let value =
    c.nodes-x-end.ensures.value in omega (arith, long, on, value)

pub returns-clause-places : goal.returns-clause-places
returns-clause-places c =
    let off = c.loop-x-test.false in
    let within = c.loop-x.auto.x-end in
    let value = c.nodes-x-end.ensures.value in
    all_numbered c.loop-x.number c.loop-x.nodes c.loop-x.front c.loop-x.back c.loop-x.x (length c.args.tree.now.nodes) (omega (arith, off, within, value))
    c.loop-x.invariant

pub returns-clause-none : goal.returns-clause-none
returns-clause-none c =
    λ ticks e.
    let off = c.loop-x-test.false in
    let within = c.loop-x.auto.x-end in
    let value = c.nodes-x-end.ensures.value in
    none_by c.loop-x.number c.loop-x.nodes ticks (length c.args.tree.now.nodes)
    (all_numbered c.loop-x.number c.loop-x.nodes c.loop-x.front c.loop-x.back c.loop-x.x (length c.args.tree.now.nodes) (omega (arith, off, within, value))
    c.loop-x.invariant) e

pub overflow_sub-back : goal.overflow_sub-back
overflow_sub-back c =
    let free = c.loop-x.invariant.free in
    let on = c.loop-x-test.true in
    let value = c.nodes-x-end.ensures.value in
    omega (arith, free, on, value)

pub stand-requires-clause-place : goal.stand-requires-clause-place
stand-requires-clause-place c =
    let free = c.loop-x.invariant.free in
    let few = c.loop-x.invariant.few in
    let long = c.loop-x.invariant.nodes_long in
    let on = c.loop-x-test.true in
    let value = c.nodes-x-end.ensures.value in
    omega (arith, free, few, long, on, value)

pub stand-requires-else-is_member-clause-place : goal.stand-requires-else-is_member-clause-place
stand-requires-else-is_member-clause-place c =
    let free = c.loop-x.invariant.free in
    let few = c.loop-x.invariant.few in
    let long = c.loop-x.invariant.nodes_long in
    let on = c.loop-x-test.true in
    let value = c.nodes-x-end.ensures.value in
    omega (arith, free, few, long, on, value)

pub loop-x-preserved : goal.loop-x-preserved
loop-x-preserved c =
    let was = c.loop-x.invariant in
    let number = c.loop-x.number in
    let nodes = c.loop-x.nodes in
    let front = c.loop-x.front in
    let back = c.loop-x.back in
    let x = c.loop-x.x in
    let count = length c.args.tree.now.nodes in
    let now = c.if-is_member in
    let on = c.loop-x-test.true in
    let value = c.nodes-x-end.ensures.value in
    let free = was.free in
    let low : x < count = omega (arith, on, value) in
    elim c.if-is_member.branch [
      | then-is_member w ↦
          let b = w.back-is in
          subst (λ (f : ℕ). AreNumbered now.number now.nodes f now.back (x + 1) count) (sym w.front-is)
          (member_numbered number nodes now.number now.nodes front back now.back x count low (omega (arith, b, free, low))
          (w.number-is ∙ w.stand.ensures.number ∙ ap (λ n. set number x n) (sym w.back-is)) (w.nodes-is ∙ w.stand.ensures.nodes ∙ ap (λ n. set nodes n x)
          (sym w.back-is)) was)
      | else-is_member w ↦
          subst (λ (f : ℕ). AreNumbered now.number now.nodes f now.back (x + 1) count) (sym w.front-is)
          (subst (λ (n : ℕ). AreNumbered now.number now.nodes (front + 1) n (x + 1) count) (sym w.back-is)
          (pack_numbered number nodes now.number now.nodes front back x count low (w.number-is ∙ w.stand-else-is_member.ensures.number) (w.nodes-is
          ∙ w.stand-else-is_member.ensures.nodes) was))
    ]
