use Rattle.std.proofs.Common.{map}
use Rattle.trace_verdict.specs.RowLists.{row_for}
use Rattle.trace_verdict.proofs.ShortLemmas.{StandsSoFar}
use Rattle.trace_verdict.proofs.short_standing.count_short.Given as goal

abbrev pub invariant-loop-row : goal.invariant-loop-row
invariant-loop-row l = StandsSoFar l.set l.scale (map row_for l.rows) l.row-index l.total (row_for l.last)
