use Rattle.std.proofs.Common.{◌≡◌, ℕ, ◌<◌, ◌≤◌, true, get_or}
use Rattle.run_tree.specs.Tree.{leaf, numbers}
use Rattle.run_tree.specs.TreeOfSet.{is_idle}
use Rattle.merged_rounds.proofs.apart.first_idle.Given as goal

abbrev pub invariant-loop-k : goal.invariant-loop-k
invariant-loop-k l = (k : ℕ) → l.from ≤ k → k < l.k → is_idle (leaf l.tree (get_or (numbers l.members) k 0)) ≡ true → ⊥
