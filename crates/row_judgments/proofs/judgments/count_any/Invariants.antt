use Rattle.std.proofs.Common.{◌≡◌, ◌+◌, ◌≤◌, ◌<◌, ℕ, None, true, drop, length}
use Rattle.trace_verdict.specs.Faults.{row_at}
use Rattle.trace_verdict.specs.Orders.{task_key, entries_from}
use Rattle.trace_verdict.specs.Searches.{is_fit}
use Rattle.trace_verdict.specs.Standing.{stand}
use Rattle.row_judgments.proofs.judgments.count_any.Given as goal

abbrev pub invariant-loop-i : goal.invariant-loop-i
invariant-loop-i l =
    (stand None l.rows ≡ stand l.last (drop l.i l.rows))
    × ((j : ℕ) → j < l.i → is_fit l.set l.scale (row_at l.rows j) ≡ true)
    × (l.total + length (entries_from task_key l.i (drop l.i l.rows)) ≡ length (entries_from task_key 0 l.rows))
    × (l.total ≤ l.i)
