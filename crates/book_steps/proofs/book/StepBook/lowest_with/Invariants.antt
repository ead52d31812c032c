use Rattle.std.proofs.Common.{◌≢◌, ℕ, ◌<◌}
use Rattle.book_machine.specs.Machine.{PostedBefore}
use Rattle.plan_rounds.specs.PlanRows.{plan_rows}
use Rattle.book_steps.proofs.book.StepBook.lowest_with.Given as goal

abbrev pub invariant-loop-q : goal.invariant-loop-q
invariant-loop-q l = (u : ℕ) → u < l.q → u ≢ l.p → PostedBefore (plan_rows l.self.plan) l.self.state.lanes u l.round l.leaf
