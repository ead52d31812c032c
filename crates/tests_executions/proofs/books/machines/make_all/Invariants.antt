use Rattle.std.proofs.Common.{◌≡◌, length}
use Rattle.tests_executions.proofs.books.machines.make_all.Given as goal

abbrev pub invariant-loop-event : goal.invariant-loop-event
invariant-loop-event g l = length l.state.lanes ≡ length l.initial.state.lanes
