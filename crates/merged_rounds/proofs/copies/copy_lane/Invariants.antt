use Rattle.std.proofs.Common.{◌≡◌, [], get_or, set, take}
use Rattle.merged_rounds.specs.Copies.{copied}
use Rattle.merged_rounds.proofs.copies.copy_lane.Given as goal

abbrev pub invariant-loop-i : goal.invariant-loop-i
invariant-loop-i l = l.rows.begun ≡ set l.initial.rows.begun l.q (copied l.window (get_or l.initial.rows.begun l.q [])
    (take l.i (get_or l.initial.rows.begun l.q [])))
