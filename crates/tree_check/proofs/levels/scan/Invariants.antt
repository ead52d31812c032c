use Rattle.std.proofs.Common.{take}
use Rattle.tree_check.specs.Written.{level_at}
use Rattle.tree_check.specs.Scans.{AreMarks, names_of, IsLeast}
use Rattle.tree_check.proofs.PackScans.{IsFirstBelow}
use Rattle.tree_check.proofs.levels.scan.Given as goal

abbrev pub invariant-loop-i : goal.invariant-loop-i
invariant-loop-i l =
    (AreMarks l.rates (names_of l.tree l.l (take l.i (level_at l.tree l.l))) l.marks)
    × (IsLeast l.scale (level_at l.tree l.l) l.i l.least)
    × (IsFirstBelow l.tree l.l l.i l.first)
