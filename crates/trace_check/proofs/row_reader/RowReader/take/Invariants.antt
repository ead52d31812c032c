use Rattle.std.proofs.Common.{ℕ, ◌≡◌, List, ◌++◌, length}
use Rattle.trace_check.specs.WholeRows.{AreRowsOf}
use Rattle.trace_check.proofs.row_reader.RowReader.take.Given as goal

abbrev pub invariant-loop-row : goal.invariant-loop-row
invariant-loop-row l =
    ((gone : List ℕ) × (l.text ≡ gone ++ l.rest))
    × ((whole : List ℕ) → AreRowsOf l.set.tasks whole l.fn.self.rows l.fn.self.totals.items l.text → AreRowsOf l.set.tasks whole l.self.rows
    l.self.totals.items l.rest)

abbrev pub decreases-loop-row : goal.decreases-loop-row
decreases-loop-row l = length l.rest
