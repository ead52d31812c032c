use Rattle.std.proofs.Common.{◌≡◌, length}
use Rattle.tests_executions.proofs.books.machines.play_steps.Given as goal

abbrev pub invariant-loop-step : goal.invariant-loop-step
invariant-loop-step g l = length l.state.lanes ≡ length l.initial.state.lanes
