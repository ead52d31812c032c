use Rattle.std.proofs.Common.{◌≡◌, map, length}
use Rattle.trace_verdict.specs.ShortWalks.{wide_of}
use Rattle.trace_verdict.specs.Timed.{AreGoing}
use Rattle.trace_verdict.proofs.timed.short_findings.Given as goal

abbrev pub invariant-rows : goal.invariant-rows
invariant-rows l = (length l.walks.items ≡ length l.set.tasks) × AreGoing l.set l.scale l.rows 0 (map wide_of l.walks.items)
