-- What a call that tells rounds gets.
use Rattle.std.specs.Prelude.{◌≡◌, ℕ, ◌+◌, ◌*◌, ◌^◌, ◌≤◌, ◌<◌, List, slice_index, slice_index_or, Some, None}
use Rattle.std.specs.declared.option.Option.{Option}
use Rattle.sched_base.specs.declared.rows.Row.{Row}
use Rattle.run_tree.specs.Plans.{PlanContents, stop_of}
use Rattle.event_core.specs.Rounds.{IsRoundUpTo, rows_of_round}
use Rattle.round_steps.specs.declared.halves.Halves.{Halves}
use Rattle.round_steps.specs.declared.faults.OpenFault.{OpenFault}
use Rattle.exit_status.specs.Status.{code_of}
use Rattle.round_steps.specs.Refusals.{status_of, IsRefusedFor}
use Rattle.round_steps.specs.Steps.{StepsHeld, IsPlanOf, task_shown}
use Rattle.furnacelime_c.specs.declared.rounds.About.{About}
use Rattle.furnacelime_c.specs.declared.rounds.Round.{Round}

-- the number of ticks that two halves are
abbrev pub ticks_of : Halves → ℕ
ticks_of h = h.high * 2 ^ 64 + h.low

-- what is told of a plan: the ticks of a unit, the tick at which its last round ends, and its processors
pub record IsAboutPlan (p : PlanContents) (told : About) : Type 0 where
  pub scale : ticks_of told.scale ≡ p.tree.scale
  pub end : ticks_of told.end ≡ stop_of p
  pub processors : told.processors ≡ p.tree.processors

-- the steps are those of the set of these bytes, before its first round
pub record Begins (bytes : List ℕ) (s : StepsHeld) : Type 0 where
  pub plan : IsPlanOf bytes s.plan
  pub start : s.core.tick ≡ 0

-- a handle has the steps of the set of these bytes, and this is told of their plan
abbrev pub IsOpened : List ℕ → Option StepsHeld → About → Type 0
IsOpened bytes opened told = (s : StepsHeld) × (opened ≡ Some s) × Begins bytes s × IsAboutPlan s.plan told

-- the bytes are refused with the status of this number, and the handle has no steps
abbrev pub IsNotOpened : List ℕ → Option StepsHeld → ℕ → Type 0
IsNotOpened bytes opened code = (opened ≡ None) × ((fault : OpenFault) × (code ≡ code_of (status_of fault)) × IsRefusedFor bytes fault)

-- from these steps to those by the next round of the schedule: its ticks, and the task on each processor
pub record IsRoundTold (old new : StepsHeld) (told : Round) (shown : List ℕ) : Type 0 where
  pub plan : new.plan ≡ old.plan
  pub start : ticks_of told.start ≡ old.core.tick
  pub end : ticks_of told.end ≡ new.core.tick
  pub round : IsRoundUpTo old.plan old.core.tick new.core.tick
  pub tasks : (q : ℕ) (none : Row) → q < old.plan.tree.processors
      → slice_index shown q ≡ task_shown (slice_index_or (rows_of_round old.plan old.core.tick new.core.tick) q none).leaf

-- a handle's steps went on by a round
abbrev pub IsNext : Option StepsHeld → Option StepsHeld → Round → List ℕ → Type 0
IsNext before now told shown = (old new : StepsHeld) × (before ≡ Some old) × (now ≡ Some new) × IsRoundTold old new told shown

-- all rounds were told before, and the handle's steps are as they were
abbrev pub IsOver : Option StepsHeld → Option StepsHeld → Type 0
IsOver before now = (s : StepsHeld) × (before ≡ Some s) × (now ≡ Some s) × (stop_of s.plan ≤ s.core.tick)

-- there was room for fewer tasks than there are processors, and the handle's steps are as they were
abbrev pub IsShort : Option StepsHeld → Option StepsHeld → ℕ → Type 0
IsShort before now room = (s : StepsHeld) × (before ≡ Some s) × (now ≡ Some s) × (room < s.plan.tree.processors)
