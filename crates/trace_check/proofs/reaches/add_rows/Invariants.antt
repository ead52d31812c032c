use Rattle.std.proofs.Common.{ℕ, List, take}
use Rattle.sched_base.specs.declared.sets.Task.{Task}
use Rattle.trace_check.specs.Reaches.{HaveEnds, AreReachesOf}
use Rattle.trace_check.proofs.reaches.add_rows.Given as goal

abbrev pub invariant-loop-i : goal.invariant-loop-i
invariant-loop-i l = HaveEnds (take l.i l.rows) l.reaches × ((scale : ℕ) (tasks : List Task) → AreReachesOf scale tasks l.fn.reaches →
    AreReachesOf scale tasks l.reaches)
