use Rattle.std.proofs.Common.{◌≡◌, ℕ, ◌<◌, false, get_or}
use Rattle.run_tree.specs.Tree.{leaf}
use Rattle.run_tree.specs.TreeOfSet.{is_idle}
use Rattle.merged_rounds.proofs.standings.is_left_again.Given as goal

abbrev pub invariant-loop-x : goal.invariant-loop-x
invariant-loop-x l = (y : ℕ) → y < l.x → is_idle (leaf l.tree y) ≡ false → get_or l.now y 0 ≡ get_or l.before y 0
