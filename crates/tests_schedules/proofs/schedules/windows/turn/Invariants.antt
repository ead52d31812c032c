use Rattle.release_calendar.specs.Calendars.{BelongsTo}
use Rattle.tests_schedules.proofs.schedules.windows.turn.Given as goal

abbrev pub invariant-loop-turn : goal.invariant-loop-turn
invariant-loop-turn g l = BelongsTo l.plan l.calendar
