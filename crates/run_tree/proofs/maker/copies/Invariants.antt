use Rattle.std.proofs.Common.{◌≡◌, take}
use Rattle.run_tree.proofs.maker.copies.Given as goal

abbrev pub invariant-loop-packs : goal.invariant-loop-packs
invariant-loop-packs l = l.copied.items ≡ take l.packs-index l.levels.items
