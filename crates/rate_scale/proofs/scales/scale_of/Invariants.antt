use Rattle.std.proofs.Common.{◌≤◌, ◌^◌, take}
use Rattle.rate_scale.proofs.ScaleLemmas.{IsLeastMultiple}
use Rattle.rate_scale.proofs.scales.scale_of.Given as goal

abbrev pub invariant-loop-i : goal.invariant-loop-i
invariant-loop-i l = IsLeastMultiple (take l.i l.task-items) l.scale × (l.scale ≤ 2 ^ 94)
