use Rattle.std.proofs.Common.{◌≡◌, length, take}
use Rattle.run_tree.specs.Growth.{with_duals_of, no_growth}
use Rattle.run_tree.proofs.LevelsMade.{IsLevelOf}
use Rattle.run_tree.proofs.growth.Growth.of_duals.Given as goal

abbrev pub invariant-loop-i : goal.invariant-loop-i
invariant-loop-i l = record {
  made : l.growth ≡ with_duals_of l.below l.scale l.level (take l.i l.packs) (take l.i l.homes) no_growth;
  kept : IsLevelOf (length l.below) l.level l.scale l.i l.growth;
}
