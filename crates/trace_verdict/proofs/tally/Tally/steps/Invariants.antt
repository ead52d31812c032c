use Rattle.std.proofs.Common.{take}
use Rattle.trace_verdict.specs.Tally.{Goes}
use Rattle.trace_verdict.proofs.tally.Tally.steps.Given as goal

abbrev pub invariant-loop-row : goal.invariant-loop-row
invariant-loop-row l = Goes l.periods (take l.row-index l.rows) l.fn.self l.self
