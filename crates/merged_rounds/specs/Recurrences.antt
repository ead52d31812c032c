-- When the rounds of a plan come again.
use Rattle.std.specs.Prelude.{◌≡◌, ◌<◌, ◌+◌}
use Rattle.run_tree.specs.Plans.{PlanContents}
use Rattle.event_core.specs.Cores.{places_of}
use Rattle.event_core.specs.Rounds.{rounds_before}
use Rattle.merged_rounds.specs.declared.recurrences.Recurrence.{Recurrence}
use Rattle.merged_rounds.specs.declared.recurrences.Seen.{Seen}
use Rattle.merged_rounds.specs.Laps.{CanComeRound, ComesAgain}

-- from a tick after 0 on, the schedule of a plan is the same so many ticks and so many rounds later
pub record IsRecurrence (p : PlanContents) (r : Recurrence) : Type 0 where
  pub can : CanComeRound p
  pub later : 0 < r.from
  pub again : ComesAgain p r.from r.ticks
  pub rounds : rounds_before p (r.from + r.ticks) ≡ rounds_before p r.from + r.rounds

-- these are the places at a tick, and how many rounds begin before it
pub record IsSeen (p : PlanContents) (seen : Seen) : Type 0 where
  pub places : seen.places ≡ places_of p seen.tick
  pub rounds : seen.rounds ≡ rounds_before p seen.tick
