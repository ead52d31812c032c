use Rattle.std.proofs.Common.{◌+◌, ◌-◌}
use Rattle.trace_check.proofs.SourceLemmas.{Going}
use Rattle.trace_check.proofs.source_reading.read_rows.Given as goal

abbrev pub invariant-loop-stop : goal.invariant-loop-stop
invariant-loop-stop g l = Going (g.R.Source.left l.fn.source) (g.R.Source.left l.source) (g.R.Source.faults l.fn.source) (g.R.Source.faults l.source)
    l.fn.window l.window l.set.tasks l.rows.rows l.rows.totals.items

abbrev pub decreases-loop-stop : goal.decreases-loop-stop
decreases-loop-stop g l = l.window.limit + 1 - l.window.count
