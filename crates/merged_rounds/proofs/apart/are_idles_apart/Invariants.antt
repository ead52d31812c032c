use Rattle.std.proofs.Common.{ℕ, ◌<◌}
use Rattle.run_tree.specs.Tree.{IsPack}
use Rattle.merged_rounds.specs.Laps.{IsApartAt}
use Rattle.merged_rounds.proofs.apart.are_idles_apart.Given as goal

abbrev pub invariant-loop-n : goal.invariant-loop-n
invariant-loop-n l = (p : ℕ) → p < l.n → IsPack l.tree p → IsApartAt l.tree p
