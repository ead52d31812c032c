use Rattle.std.proofs.Common.{arith, subst, length, inl, inr, ℕ, ◌<◌, ◌≡◌, ◌∙◌, ap, None, get_or}
use Rattle.std.proofs.lemmas.Bool.{cases_lt}
use Rattle.run_tree.specs.Tree.{Tree}
use Rattle.round_looks.specs.Looks.{IsLooked}
use Rattle.round_looks.proofs.LookLemmas.{looked_again}
use Rattle.round_looks.proofs.next_other.Goals as goal

pub loop-q-preserved : goal.loop-q-preserved
loop-q-preserved c = λ k from low.
    let q = c.loop-q.q in
    let kept = c.args.kept.now in
    let many = c.processors-count.ensures.value ∙ ap (λ (t : Tree). t.processors) c.tree.ensures.value in
    let more = c.loop-q-test.true in
    let nodes = c.requires.kept in
    let here : q < length kept = omega (arith, many, more, nodes) in
    elim (cases_lt k q) [
      | inl l ↦ c.loop-q.invariant k from l
      | inr most ↦
          (let same : q ≡ k = omega (arith, most, low) in
          let P = λ (j : ℕ). IsLooked c.args.plan.now c.args.start c.args.core.now.tick j (get_or kept j None) (get_or kept j None) None in
          subst P same (looked_again c.args.plan.now c.args.start c.args.core.now.tick q kept _ here (c.goes_on.ensures c.if-not-goes_on.false)))
    ]

pub node_on-node-requires-clause-belongs : goal.node_on-node-requires-clause-belongs
node_on-node-requires-clause-belongs c = c.requires.belongs

pub node_on-node-requires-clause-round : goal.node_on-node-requires-clause-round
node_on-node-requires-clause-round c = c.requires.round
