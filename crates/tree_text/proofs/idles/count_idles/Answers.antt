use Rattle.std.proofs.Common.{◌&&◌, ◌∙◌, ap, arith}
use Rattle.sched_base.proofs.CountingLemmas.{bit_at, bit_off}
use Rattle.run_tree.specs.declared.kinds.Kind.{Kind}
use Rattle.run_tree.specs.Tree.{is_leaf, leaf_of}
use Rattle.run_tree.specs.TreeOfSet.{is_idle}
use Rattle.tree_text.proofs.SearchLemmas.{idles_next}
use Rattle.tree_text.proofs.idles.count_idles.Goals as goal
use Rattle.tree_text.proofs.idles.count_idles.Goals.{then-is_idle, else-is_idle}

pub loop-n-preserved : goal.loop-n-preserved
loop-n-preserved c =
    let is = c.is_idle.ensures ∙ ap (λ (x : Kind). is_leaf x && is_idle (leaf_of x)) c.kind.ensures in
    let few = c.loop-n.invariant.1 in
    elim c.if-is_idle.branch [
      | then-is_idle w ↦
          (let one = bit_at c.is_idle.result w.if-is_idle.true in let next = w.count-is in (
            idles_next c.args.tree.now c.loop-n.n c.loop-n.count c.if-is_idle.count c.is_idle.result is c.loop-n.invariant.0 (omega (arith, next, one)),
            omega (arith, next, few),
          ))
      | else-is_idle w ↦
          (let none = bit_off c.is_idle.result w.if-is_idle.false in let next = w.count-is in (
            idles_next c.args.tree.now c.loop-n.n c.loop-n.count c.if-is_idle.count c.is_idle.result is c.loop-n.invariant.0 (omega (arith, next, none)),
            omega (arith, next, few),
          ))
    ]
