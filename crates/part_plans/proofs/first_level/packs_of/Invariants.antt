use Rattle.std.proofs.Common.{ℕ, ◌<◌, length, get_or}
use Rattle.run_tree.specs.Schedule.{packs_at}
use Rattle.part_plans.proofs.first_level.packs_of.Given as goal

abbrev pub invariant-loop-i : goal.invariant-loop-i
invariant-loop-i l = (k : ℕ) → k < length l.packs.items → get_or l.packs.items k 0 < length (packs_at l.tree 0)
