use Rattle.std.proofs.Common.{ℕ, ◌<◌, get_or}
use Rattle.run_tree.specs.Plans.{boundary_of}
use Rattle.release_calendar.specs.Calendars.{IsStep}
use Rattle.release_calendar.proofs.steps.put_steps.Given as goal

abbrev pub invariant-loop-x : goal.invariant-loop-x
invariant-loop-x l = (y : ℕ) → y < l.x → IsStep (boundary_of l.plan y) (get_or l.steps y 0)
