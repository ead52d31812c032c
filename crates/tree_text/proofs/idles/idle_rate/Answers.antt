use Rattle.std.proofs.Common.{◌≡◌, ◌<◌, ◌∙◌, length, ap, sym, arith}
use Rattle.run_tree.specs.declared.kinds.Kind.{Kind}
use Rattle.run_tree.specs.Tree.{leaf_of, rate}
use Rattle.tree_text.specs.Text.{is_idle_leaf}
use Rattle.tree_text.proofs.SearchLemmas.{idle_found, idle_absent}
use Rattle.tree_text.proofs.idles.idle_rate.Goals as goal

pub returns-then-is_idle_leaf : goal.returns-then-is_idle_leaf
returns-then-is_idle_leaf c =
    let is = ap (λ (x : Kind). is_idle_leaf c.args.k (leaf_of x)) (sym c.kind.ensures) ∙ sym c.is_idle_leaf.ensures ∙ c.if-is_idle_leaf.true in
    let count = c.nodes-n-end.ensures.value in
    let within : c.loop-n.n < length c.args.tree.now.nodes = omega (arith, count, c.loop-n-test.true) in
    c.rate.ensures.value ∙ ap (rate c.args.tree.now) (sym (idle_found c.args.tree.now c.args.k c.loop-n.n within c.loop-n.invariant is))

pub returns : goal.returns
returns c =
    let count = c.nodes-n-end.ensures.value in
    let all : c.loop-n.n ≡ length c.args.tree.now.nodes = omega (arith, count, c.loop-n-test.false, c.loop-n.auto.n-end) in
    sym (idle_absent c.args.tree.now c.args.k c.loop-n.n all c.loop-n.invariant)
