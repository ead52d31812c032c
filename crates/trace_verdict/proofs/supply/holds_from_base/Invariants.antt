use Rattle.std.proofs.Common.{drop}
use Rattle.trace_verdict.proofs.SuppliedLemmas.{Remains}
use Rattle.trace_verdict.proofs.supply.holds_from_base.Given as goal

abbrev pub invariant-loop-row : goal.invariant-loop-row
invariant-loop-row l = Remains l.periods l.rows (drop l.row-index l.rows) l.walk
