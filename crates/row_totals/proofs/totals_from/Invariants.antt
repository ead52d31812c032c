use Rattle.std.proofs.Common.{◌≡◌, ◌+◌, ◌≤◌, length, take}
use Rattle.row_totals.proofs.totals_from.Given as goal

abbrev pub invariant-loop-sum : goal.invariant-loop-sum
invariant-loop-sum l = (l.totals.ticks ≡ take l.sum-index l.sums) × (length l.sums ≤ l.totals.room + l.sum-index)
