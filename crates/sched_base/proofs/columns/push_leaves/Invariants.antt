use Rattle.std.proofs.Common.{◌≡◌, take}
use Rattle.sched_base.specs.Columns.{with_leaves}
use Rattle.sched_base.proofs.columns.push_leaves.Given as goal

abbrev pub invariant-loop-p : goal.invariant-loop-p
invariant-loop-p l = l.lanes ≡ with_leaves l.initial.lanes (take l.p l.rows)
