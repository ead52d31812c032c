use Rattle.std.proofs.Common.{◌≡◌, take}
use Rattle.event_core.proofs.left.dues_left.Given as goal

abbrev pub invariant-loop-x : goal.invariant-loop-x
invariant-loop-x l = l.left.items ≡ take l.x l.dues.remains
