use Rattle.std.proofs.Common.{◌≡◌, length}
use Rattle.trace_verdict.specs.Timed.{AreGoing}
use Rattle.trace_verdict.proofs.timed.timed_findings.Given as goal

abbrev pub invariant-rows : goal.invariant-rows
invariant-rows l = (length l.walks.items ≡ length l.set.tasks) × AreGoing l.set l.scale l.rows 0 l.walks.items
