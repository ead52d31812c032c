use Rattle.std.proofs.Common.{◌≡◌, ℕ, ◌<◌, Some, slice_get}
use Rattle.sched_base.specs.declared.rows.Row.{Row}
use Rattle.sched_base.specs.Tables.{RowAt}
use Rattle.plan_rounds.proofs.rounds.write_again.Given as goal

abbrev pub invariant-loop-p : goal.invariant-loop-p
invariant-loop-p l = (q : ℕ) → q < l.p → (row : Row) × RowAt l.old.lanes q l.k row
    × (slice_get l.rows q ≡ Some (record { processor = q; leaf = row.leaf; start = l.start; end = l.end }))
