use Rattle.std.proofs.Common.{ap, arith, length, refl, set, ℕ, ◌+◌, ◌≢◌, ◌≡◌, ◌≤◌, ◌<◌, ◌∙◌, None, Some, get_or, get_or-set_other}
use Rattle.run_tree.specs.Tree.{Tree}
use Rattle.round_looks.proofs.LookLemmas.{looked_on, looked_past}
use Rattle.round_looks.proofs.look_each.Goals as goal

pub others-init : goal.others-init
others-init c =
    let kept = c.args.kept.now in
    let told = c.forget.new.told in
    record {
      done = looked_past c.args.plan.now c.args.start c.args.core.now.tick 0 c.next_other-other.result.0 kept kept told
          (λ k l. absurd (omega (arith, l))) (λ k l. refl) (λ k l. c.forget.ensures k) c.next_other-other.ensures.skipped;
      left = λ k l. refl;
      untold = λ k l. c.forget.ensures k;
      within = c.next_other-other.ensures.within;
      node = c.next_other-other.ensures.node;
    }

pub others-preserved : goal.others-preserved
others-preserved c =
    let q = c.others.other.0 in
    let kept = c.others.kept in
    let told = c.others.told in
    let node = c.shown_at-node.result.0 in
    let leaf = Some c.shown_at-node.result.1 in
    let many = c.processors-count.ensures.value ∙ ap (λ (t : Tree). t.processors) c.tree.ensures.value in
    let on = c.others-test.true in
    let nodes = c.requires.kept in
    let nodes_kept = c.others.auto.kept in
    let leaves = c.requires.told in
    let leaves_kept = c.others.auto.told in
    let here : q < length kept = omega (arith, many, on, nodes, nodes_kept) in
    let there : q < length told = omega (arith, many, on, leaves, leaves_kept) in
    let left : (k : ℕ) → q + 1 ≤ k → get_or (set kept q node) k None ≡ get_or c.args.kept.now k None =
    (λ k l. (let apart : k ≢ q = (λ e. omega (arith, e, l)) in get_or-set_other kept q k node None apart) ∙ c.others.invariant.left k (omega (arith, l))) in
    let untold : (k : ℕ) → q + 1 ≤ k → get_or (set told q leaf) k None ≡ None =
    (λ k l. (let apart : k ≢ q = (λ e. omega (arith, e, l)) in get_or-set_other told q k leaf None apart) ∙ c.others.invariant.untold k (omega (arith, l))) in
    record {
      done = looked_past c.args.plan.now c.args.start c.args.core.now.tick (q + 1) c.next_other-other-in-others.result.0 c.args.kept.now (set kept q node)
          (set told q leaf)
          (looked_on c.args.plan.now c.args.start c.args.core.now.tick q c.args.kept.now kept told None node leaf here there c.others.invariant.done
          c.others.invariant.left (c.shown_at-node.ensures (get_or kept q None)))
          left untold c.next_other-other-in-others.ensures.skipped;
      left = λ k l. left k (let after = c.next_other-other-in-others.ensures.after in omega (arith, after, l));
      untold = λ k l. untold k (let after = c.next_other-other-in-others.ensures.after in omega (arith, after, l));
      within = c.next_other-other-in-others.ensures.within;
      node = c.next_other-other-in-others.ensures.node;
    }

pub shown_at-node-requires : goal.shown_at-node-requires
shown_at-node-requires c =
    let many = c.processors-count.ensures.value ∙ ap (λ (t : Tree). t.processors) c.tree.ensures.value in
    let on = c.others-test.true in
    record { on = c.others.invariant.node (omega (arith, many, on)) }

pub next_other-other-requires-clause-belongs : goal.next_other-other-requires-clause-belongs
next_other-other-requires-clause-belongs c = c.requires.belongs

pub next_other-other-requires-clause-round : goal.next_other-other-requires-clause-round
next_other-other-requires-clause-round c = c.requires.round

pub next_other-other-requires-in-others-clause-belongs : goal.next_other-other-requires-in-others-clause-belongs
next_other-other-requires-in-others-clause-belongs c = c.requires.belongs

pub next_other-other-requires-in-others-clause-round : goal.next_other-other-requires-in-others-clause-round
next_other-other-requires-in-others-clause-round c = c.requires.round

pub next_other-other-requires-clause-kept : goal.next_other-other-requires-clause-kept
next_other-other-requires-clause-kept c = c.requires.kept
