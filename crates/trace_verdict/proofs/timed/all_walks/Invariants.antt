use Rattle.std.proofs.Common.{◌≡◌, List, length}
use Rattle.sched_base.specs.declared.rows.Row.{Row}
use Rattle.trace_verdict.specs.Timed.{AreGoing}
use Rattle.trace_verdict.proofs.timed.all_walks.Given as goal

abbrev pub invariant-loop-task : goal.invariant-loop-task
invariant-loop-task l = (length l.walks.items ≡ l.task) × ((rows : List Row) → AreGoing l.set l.scale rows 0 l.walks.items)
