use Rattle.std.proofs.Common.{◌≡◌, ◌≢◌, ◌<◌, ◌≤◌, ◌+◌, ◌-◌, ◌*◌, ℕ, Some}
use Rattle.std.specs.Prelude.{slice_get}
use Rattle.book_steps.specs.declared.ring.PendingRow.{PendingRow}
use Rattle.book_steps.proofs.pending.Pending.has.Given as goal

abbrev pub invariant-loop-n : goal.invariant-loop-n
invariant-loop-n l = (k : ℕ) (next : PendingRow) → l.from + (l.to - l.n) ≤ k → k < l.to → slice_get l.self.held.items (k * l.self.width + l.q) ≡ Some next →
    next.row.leaf ≢ l.leaf
