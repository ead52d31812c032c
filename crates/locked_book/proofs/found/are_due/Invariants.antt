use Rattle.std.proofs.Common.{◌≢◌, ◌<◌, ℕ, None}
use Rattle.book_machine.specs.Machine.{HasTakeable}
use Rattle.plan_rounds.specs.PlanRows.{plan_rows}
use Rattle.exec_lanes.specs.Lanes.{lane_in}
use Rattle.locked_book.proofs.found.are_due.Given as goal

abbrev pub invariant-loop-p : goal.invariant-loop-p
invariant-loop-p g l =
    (q : ℕ) → q < l.p → (lane_in l.lanes q).cause ≢ None → HasTakeable (plan_rows l.book.plan) l.book.window l.book.state q
