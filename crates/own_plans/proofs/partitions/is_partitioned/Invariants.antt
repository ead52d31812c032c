use Rattle.std.proofs.Common.{ℕ, ◌≡◌, ◌<◌, None}
use Rattle.run_tree.specs.Tree.{IsPack, dual, level}
use Rattle.own_plans.proofs.partitions.is_partitioned.Given as goal

abbrev pub invariant-loop-n : goal.invariant-loop-n
invariant-loop-n l = (p : ℕ) → p < l.n → IsPack l.tree p → level l.tree p ≡ 0 → dual l.tree p ≡ None
