-- Rounds of which it is known on which processors they may show something else than the ones before.
use Rattle.std.specs.Prelude.{ℕ, ◌≡◌, ◌≢◌, ◌<◌, ◌≤◌, true, List, length, map, Option, None, Some, slice_index, slice_index_or}
use Rattle.sched_base.specs.declared.rows.Leaf.{Leaf}
use Rattle.sched_base.specs.declared.rows.Leaf.TheVariants.{Empty}
use Rattle.sched_base.specs.declared.rows.Row.{Row}
use Rattle.sched_base.specs.Tables.{lane_of}
use Rattle.run_tree.specs.Plans.{PlanContents}
use Rattle.event_core.specs.Rounds.{IsRoundUpTo, rows_of_round}
use Rattle.event_core.specs.Told.{AllReleased}
use Rattle.merged_rows.specs.Columns.{ends_showing}
use Rattle.merged_rounds.specs.declared.sources.Source.{Source}
use Rattle.merged_rounds.specs.declared.sums.RoundSum.{RoundSum}
use Rattle.merged_rounds.specs.declared.turns.Turn.{Turn}
use Rattle.merged_rounds.specs.Laps.{IsAllTold, IsSumUpTo}
use Rattle.round_looks.specs.Looks.{leaf_at, shown_for}
use Rattle.merged_rounds.specs.Replays.{IsSourceOf, IsTurnOf, turn_end}

-- The rounds up to the source's tick are merged, and each processor's last row shows what the processor shows in the round just gone, in
-- which no task waits.
pub record IsShowing (p : PlanContents) (source : Source) (so_far : RoundSum) : Type 0 where
  pub belongs : IsSourceOf p source
  pub sum : IsSumUpTo p source.tick so_far
  pub start : ℕ
  pub round : IsRoundUpTo p start source.tick
  pub released : AllReleased p start
  pub last : (q : ℕ) (none : Row) → q < p.tree.processors → ends_showing (lane_of so_far.rows.lanes q) (leaf_at p start source.tick q none) ≡ true

-- what each node shows from this tick on, where it runs on a processor
pub record AreLeavesOf (p : PlanContents) (tick : ℕ) (leaves : List Leaf) : Type 0 where
  pub long : length leaves ≡ length p.tree.nodes
  pub each : (n t : ℕ) → n < length p.tree.nodes → tick ≤ t → shown_for p n t ≡ slice_index_or leaves n Empty

-- what each processor shows in the round from `start` up to `end`
abbrev pub leaves_in : PlanContents → ℕ → ℕ → List (Option Leaf)
leaves_in p start end = map (λ (r : Row). Some r.leaf) (rows_of_round p start end)

-- processor q is none of the first n of these
abbrev pub IsNone : List ℕ → ℕ → ℕ → Type 0
IsNone changed n q = (k : ℕ) → k < n → slice_index changed k ≢ q

-- where a processor is none of the first n of these, it shows in the round from tick `start` up to `end` what it does in the one before
pub record AreAllChanged (p : PlanContents) (start end : ℕ) (changed : List ℕ) (n : ℕ) : Type 0 where
  pub within : n ≤ length changed
  pub processors : (k : ℕ) → k < n → slice_index changed k < p.tree.processors
  pub others : (q before : ℕ) (none : Row) → q < p.tree.processors → IsNone changed n q → IsRoundUpTo p before start →
      leaf_at p start end q none ≡ leaf_at p before start q none

-- of the first n of these processors it is told what they show in the round from `start` up to `end`, and of the others what it was
pub record AreTold (p : PlanContents) (start end : ℕ) (changed : List ℕ) (n : ℕ) (before now : List (Option Leaf)) : Type 0 where
  pub each : (k : ℕ) (none : Row) → k < n → slice_index_or now (slice_index changed k) None ≡ Some (leaf_at p start end (slice_index changed k) none)
  pub rest : (q : ℕ) → IsNone changed n q → slice_index_or now q None ≡ slice_index_or before q None

-- of each processor it is told what it shows in the round that ends at this tick
pub record AreTheLeaves (p : PlanContents) (tick : ℕ) (told : List (Option Leaf)) : Type 0 where
  pub long : length told ≡ p.tree.processors
  pub all : (start : ℕ) → IsRoundUpTo p start tick → IsAllTold p start tick told

-- The rounds up to the source's tick are merged and kept, and these are the leaves that processors show in the last one.
pub record IsTurning (p : PlanContents) (source : Source) (so_far : RoundSum) (kept : Turn) (by_processor : List (Option Leaf)) : Type 0 where
  pub showing : IsShowing p source so_far
  pub turn : IsTurnOf p kept
  pub end : turn_end kept ≡ source.tick
  pub leaves : AreTheLeaves p source.tick by_processor
