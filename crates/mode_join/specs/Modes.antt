-- Modes that are joined.
use Rattle.std.specs.Prelude.{ℕ, ◌+◌, ◌*◌, ◌<◌, ◌≤◌, ◌≡◌, List, Some, length, map, slice_get, take}
use Rattle.std.specs.List.{AllByRecursion, sum_by}
use Rattle.sched_base.specs.Limits.{processor_limit}
use Rattle.sched_base.specs.Sets.{SetContents, task_at}
use Rattle.sched_base.specs.Scale.{Fits}
use Rattle.sched_base.specs.Tables.{row_limit}
use Rattle.run_tree.specs.Plans.{IsPlan, rounds_of}
use Rattle.mode_join.specs.declared.mode.Mode.{Mode}
use Rattle.mode_join.specs.Joining.{CanJoin, IsPlanOf, rows_of}

-- the processors on which all modes run, and the modes in order
pub record ModesContents : Type 0 where
  pub processors : ℕ
  pub modes : List Mode

-- the sets of the modes
abbrev pub sets_of : List Mode → List SetContents
sets_of modes = map (λ m. m.plan.set) modes

-- a mode: its set may be one and fits, its plan is the compiled one, and its rounds are counted
pub record IsMode (processors : ℕ) (m : Mode) : Type 0 where
  pub can_join : CanJoin processors m.plan.set
  pub lawful : IsPlan m.plan
  pub plan : IsPlanOf m.plan.set m.plan
  pub fits : Fits m.plan.tree.scale m.plan.set
  pub rounds : m.rounds ≡ rounds_of m.plan
  pub some_rounds : 1 ≤ m.rounds

-- modes that follow each other: each starts at the sum of the horizons before it, in units, and the rows of all schedules together are
-- within the limit
pub record AreModes (m : ModesContents) : Type 0 where
  pub some_processors : 1 ≤ m.processors
  pub few_processors : m.processors ≤ processor_limit
  pub each : AllByRecursion (IsMode m.processors) m.modes
  pub starts : (j : ℕ) (mode : Mode) → slice_get m.modes j ≡ Some mode → mode.start ≡ sum_by (λ x. x.plan.set.horizon) (take j m.modes)
  pub few_rows : sum_by (λ x. rows_of x.plan) m.modes ≤ row_limit

-- each period of a task that begins in the mode ends by the mode's end, so none crosses a joint; in units
abbrev pub PeriodsEndIn : Mode → Type 0
PeriodsEndIn m = (i k : ℕ) → i < length m.plan.set.tasks →
    let t = task_at m.plan.set.tasks i in
    let ends = m.start + m.plan.set.horizon in
    m.start + t.offset + k * t.period < ends → m.start + t.offset + (k + 1) * t.period ≤ ends
