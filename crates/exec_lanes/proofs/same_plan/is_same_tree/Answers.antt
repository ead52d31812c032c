use Rattle.std.proofs.Common.{arith, refl}
use Rattle.exec_lanes.proofs.TreeLemmas.{same_tree}
use Rattle.exec_lanes.proofs.same_plan.is_same_tree.Goals as goal

pub returns : goal.returns
returns c =
    let size = c.has_same_size.ensures.0 c.if-not-has_same_size.false in (
      λ _. same_tree c.args.a.now c.args.b.now size.0 size.1 size.2 size.3
          (λ n within. c.loop-n.invariant n (let all = c.nodes-n-end.ensures.value in let past = c.loop-n-test.false in omega (arith, within, all, past))),
      λ _. refl,
    )
