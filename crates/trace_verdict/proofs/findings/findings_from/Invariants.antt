use Rattle.std.proofs.Common.{◌∷◌, length, map}
use Rattle.trace_verdict.specs.Faults.{row_at}
use Rattle.trace_verdict.specs.Findings.{AreInPeriods}
use Rattle.trace_verdict.proofs.TallyLemmas.{Tells}
use Rattle.trace_verdict.proofs.findings.findings_from.Given as goal

abbrev pub invariant-loop-left : goal.invariant-loop-left
invariant-loop-left l = Tells l.periods (l.first ∷ map (row_at l.rows) l.places) (map (row_at l.rows) l.left) l.tally × AreInPeriods l.periods l.rows l.left

abbrev pub decreases-loop-left : goal.decreases-loop-left
decreases-loop-left l = length l.left
