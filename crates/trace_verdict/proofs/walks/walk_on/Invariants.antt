use Rattle.std.proofs.Common.{◌∷◌, length, map}
use Rattle.trace_verdict.specs.Faults.{row_at}
use Rattle.trace_verdict.proofs.SuppliedLemmas.{Leaves}
use Rattle.trace_verdict.proofs.TallyLemmas.{Tells}
use Rattle.trace_verdict.proofs.walks.walk_on.Given as goal

abbrev pub invariant-loop-left : goal.invariant-loop-left
invariant-loop-left l = Leaves l.periods l.rows l.task (l.first ∷ l.places) l.left l.walk
    × Tells l.periods (map (row_at l.rows) (l.first ∷ l.places)) (map (row_at l.rows) l.left) l.tally

abbrev pub decreases-loop-left : goal.decreases-loop-left
decreases-loop-left l = length l.left
