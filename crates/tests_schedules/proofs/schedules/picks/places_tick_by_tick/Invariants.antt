use Rattle.std.proofs.Common.{◌≡◌, length}
use Rattle.tests_schedules.proofs.schedules.picks.places_tick_by_tick.Given as goal

abbrev pub invariant-loop-runs : goal.invariant-loop-runs
invariant-loop-runs g l = (length l.places.last ≡ 3) × (length l.places.onto ≡ 2)
