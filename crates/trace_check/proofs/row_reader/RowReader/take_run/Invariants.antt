use Rattle.std.proofs.Common.{ℕ, ◌≡◌, List, ◌++◌, length}
use Rattle.trace_check.specs.WholeRows.{AreRowsOf}
use Rattle.trace_check.proofs.row_reader.RowReader.take_run.Given as goal

abbrev pub invariant-loop-words : goal.invariant-loop-words
invariant-loop-words l =
    ((gone : List ℕ) × (l.text ≡ gone ++ l.rest))
    × ((whole : List ℕ) → AreRowsOf l.set.tasks whole l.fn.self.rows l.fn.self.totals.items l.text → AreRowsOf l.set.tasks whole l.self.rows
    l.self.totals.items l.rest)

abbrev pub decreases-loop-words : goal.decreases-loop-words
decreases-loop-words l = length l.rest
