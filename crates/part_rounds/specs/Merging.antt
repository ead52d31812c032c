-- The rounds of a plan by those of its parts, merged while they go by.
use Rattle.std.specs.Prelude.{ℕ, ◌<◌, ◌≡◌, ◌⊎◌, true, List, Option, length}
use Rattle.sched_base.specs.declared.rows.Leaf.{Leaf}
use Rattle.sched_base.specs.declared.rows.Row.{Row}
use Rattle.sched_base.specs.Tables.{lane_of}
use Rattle.run_tree.specs.Plans.{PlanContents}
use Rattle.event_core.specs.Rounds.{IsRoundUpTo}
use Rattle.merged_rows.specs.Columns.{ends_showing}
use Rattle.merged_rounds.specs.declared.sums.RoundSum.{RoundSum}
use Rattle.merged_rounds.specs.Laps.{IsAllTold, IsSumUpTo}
use Rattle.round_looks.specs.Looks.{leaf_at}
use Rattle.part_rounds.specs.declared.parted.Parted.{Parted}
use Rattle.part_rounds.specs.Parted.{IsPartedOf}

-- A round ended at this tick. Of each processor it is told what it shows there, and its last row shows the same.
pub record IsShownUpTo (p : PlanContents) (tick : ℕ) (leaves : List (Option Leaf)) (so_far : RoundSum) : Type 0 where
  pub start : ℕ
  pub round : IsRoundUpTo p start tick
  pub told : IsAllTold p start tick leaves
  pub last : (q : ℕ) (none : Row) → q < p.tree.processors → ends_showing (lane_of so_far.rows.lanes q) (leaf_at p start tick q none) ≡ true

-- The rounds of a plan are merged up to the tick of its parts, and where one ended there, its leaves are known.
pub record IsMergingOf (p : PlanContents) (parted : Parted) (leaves : List (Option Leaf)) (so_far : RoundSum) : Type 0 where
  pub belongs : IsPartedOf p parted
  pub sum : IsSumUpTo p parted.tick so_far
  pub many : length leaves ≡ p.tree.processors
  pub gone : (parted.tick ≡ 0) ⊎ IsShownUpTo p parted.tick leaves so_far
