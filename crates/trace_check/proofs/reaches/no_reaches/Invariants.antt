use Rattle.std.proofs.Common.{◌≡◌, [], length}
use Rattle.trace_check.specs.Reaches.{HaveEnds, AreReachesOf}
use Rattle.trace_check.proofs.reaches.no_reaches.Given as goal

abbrev pub invariant-loop-task : goal.invariant-loop-task
invariant-loop-task l = AreReachesOf l.scale l.set.tasks l.reaches.items × (length l.reaches.items ≡ l.task-index) × HaveEnds [] l.reaches.items
