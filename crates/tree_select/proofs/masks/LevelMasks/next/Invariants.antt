use Rattle.tree_select.specs.Masks.{AreUnmarked}
use Rattle.tree_select.proofs.masks.LevelMasks.next.Given as goal

abbrev pub invariant-loop-g : goal.invariant-loop-g
invariant-loop-g l = AreUnmarked l.self.groups l.stale l.span.from l.g
