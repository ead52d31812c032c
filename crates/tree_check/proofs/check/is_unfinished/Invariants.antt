use Rattle.std.proofs.Common.{ℕ, ◌<◌, ◌-◌, length}
use Rattle.tree_check.specs.Written.{level_at, pack_at}
use Rattle.tree_check.proofs.check.is_unfinished.Given as goal

abbrev pub invariant-loop-pack : goal.invariant-loop-pack
invariant-loop-pack l = (k : ℕ) → k < l.pack-index → (pack_at (level_at l.tree (length l.tree.levels - 1)) k).rate < l.scale → ⊥
