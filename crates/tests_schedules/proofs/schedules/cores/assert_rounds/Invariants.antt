use Rattle.std.proofs.Common.{◌≡◌, length}
use Rattle.event_core.specs.Cores.{IsCoreOf}
use Rattle.tests_schedules.proofs.schedules.cores.assert_rounds.Given as goal

abbrev pub invariant-loop-round : goal.invariant-loop-round
invariant-loop-round g l = IsCoreOf l.plan l.core × (length l.rows ≡ l.plan.tree.processors)
