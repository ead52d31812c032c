use Rattle.std.proofs.Common.{◌≡◌, ◌≢◌, ℕ, get_or}
use Rattle.run_tree.specs.Tree.{level}
use Rattle.tree_select.proofs.PlaceLemmas.{ArePlacedBelow}
use Rattle.tree_select.proofs.masks.place_level.Given as goal

abbrev pub invariant-loop-i : goal.invariant-loop-i
invariant-loop-i l = ArePlacedBelow l.tree l.level l.i l.places × ((n : ℕ) → level l.tree n ≢ l.level → get_or l.places n 0 ≡ get_or l.fn.places n 0)
