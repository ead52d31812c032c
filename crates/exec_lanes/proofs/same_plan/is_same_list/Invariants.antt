use Rattle.std.proofs.Common.{◌≡◌, take}
use Rattle.exec_lanes.proofs.same_plan.is_same_list.Given as goal

abbrev pub invariant-loop-i : goal.invariant-loop-i
invariant-loop-i l = take l.i l.left ≡ take l.i l.right
