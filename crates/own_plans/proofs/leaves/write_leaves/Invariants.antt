use Rattle.std.proofs.Common.{ℕ, ◌≡◌, ◌<◌, length, get_or}
use Rattle.sched_base.specs.declared.rows.Leaf.TheVariants.{Empty}
use Rattle.run_tree.specs.Tree.{leaf, member}
use Rattle.own_plans.proofs.leaves.write_leaves.Given as goal

abbrev pub invariant-loop-k : goal.invariant-loop-k
invariant-loop-k l =
    (length l.leaves ≡ length l.own.nodes) × ((k : ℕ) → k < l.k → get_or l.leaves (member l.own l.q.0 k) Empty ≡ leaf l.whole (member l.whole l.p.0 k))
