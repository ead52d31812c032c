-- What gives the next round of a plan: the core, or on one processor the rounds of a hyperperiod, which come again.
use Rattle.std.specs.Prelude.{ℕ, ◌≡◌, ◌<◌, ◌≤◌, ◌+◌, ◌-◌, List, [], Option, None, Some, length, min, slice_index_or}
use Rattle.sched_base.specs.declared.rows.Leaf.{Leaf}
use Rattle.sched_base.specs.Places.{Placing}
use Rattle.run_tree.specs.Plans.{PlanContents, stop_of}
use Rattle.run_tree.specs.Schedule.{packs_at}
use Rattle.event_core.specs.Cores.{CoreContents, IsCoreOf, places_of}
use Rattle.event_core.specs.Rounds.{rounds_before}
use Rattle.merged_rounds.specs.declared.recurrences.Recurrence.{Recurrence}
use Rattle.merged_rounds.specs.Laps.{AreTurns, CanComeRound, ComesAgain, IsLap, round_start}
use Rattle.book_steps.specs.declared.source.Keeping.{Keeping}
use Rattle.book_steps.specs.declared.source.Repeating.{Repeating}
use Rattle.book_steps.specs.declared.source.Stage.{Stage}
use Rattle.book_steps.specs.declared.source.Stage.TheVariants.{Computes, Begins, Keeps, Repeats}

-- where the next round comes from: the core, or kept rounds
pub record SourceContents : Type 0 where
  pub core : CoreContents
  -- the tick at which the next round begins
  pub tick : ℕ
  pub stage : Stage
  -- where each round ends that is kept, and what the processor shows in it
  pub ends : List ℕ
  pub shown : List (Option Leaf)

-- what runs on the one processor of a plan, in its one pack, comes round after so many ticks
pub record ComesRoundAfter (p : PlanContents) (ticks : ℕ) : Type 0 where
  pub can : CanComeRound p
  pub turns : AreTurns p ticks
  pub within : ticks < stop_of p
  pub alone : p.tree.processors ≡ 1
  pub pack : length (packs_at p.tree 0) ≡ 1

-- these are the pack on the one processor, and the processor that the one pack held last
pub record ArePlaced (places : Placing) (on was : Option ℕ) : Type 0 where
  pub pack : on ≡ slice_index_or places.onto 0 None
  pub last : was ≡ slice_index_or places.last 0 None

-- the rounds from a tick after 0 up to the present one are kept, and the places at that tick
pub record IsKeeping (p : PlanContents) (tick : ℕ) (ends : List ℕ) (shown : List (Option Leaf)) (k : Keeping) : Type 0 where
  pub turn : ComesRoundAfter p k.ticks
  pub later : 0 < k.from
  pub lap : IsLap p k.from ends shown
  pub end : round_start k.from ends (length ends) ≡ tick
  pub placed : ArePlaced (places_of p k.from) k.pack k.last

-- the rounds of a hyperperiod are kept, and the round of this number comes next, so many ticks later
pub record IsRepeating (p : PlanContents) (tick : ℕ) (ends : List ℕ) (shown : List (Option Leaf)) (r : Repeating) : Type 0 where
  pub turn : ComesRoundAfter p r.ticks
  pub later : 0 < r.from
  pub again : ComesAgain p r.from r.ticks
  pub shift : ComesAgain p r.from r.passed
  pub lap : IsLap p r.from ends shown
  pub end : round_start r.from ends (length ends) ≡ r.from + r.ticks
  pub next : r.next ≤ length ends
  pub here : tick ≡ min (round_start r.from ends r.next + r.passed) (stop_of p)
  pub past : r.from + r.ticks ≤ tick

-- what is known at each stage
abbrev pub IsStage : PlanContents → ℕ → ℕ → List ℕ → List (Option Leaf) → Stage → Type 0
IsStage p core tick ends shown Computes = core ≡ tick
IsStage p core tick ends shown (Begins ticks) = (core ≡ tick) × (ends ≡ []) × (shown ≡ []) × ComesRoundAfter p ticks
IsStage p core tick ends shown (Keeps k) = (core ≡ tick) × IsKeeping p tick ends shown k
IsStage p core tick ends shown (Repeats r) = IsRepeating p tick ends shown r

-- when the rounds come again, where that is known
abbrev pub recurrence : PlanContents → Stage → Option Recurrence
recurrence p Computes = None
recurrence p (Begins ticks) = None
recurrence p (Keeps k) = None
recurrence p (Repeats r) = Some (record { from = r.from; ticks = r.ticks; rounds = rounds_before p (r.from + r.ticks) - rounds_before p r.from })

-- it goes on with the rounds of a plan
pub record GoesOnWithPlan (p : PlanContents) (s : SourceContents) : Type 0 where
  pub core : IsCoreOf p s.core
  pub stage : IsStage p s.core.tick s.tick s.ends s.shown s.stage
