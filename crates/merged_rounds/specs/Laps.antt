-- Rounds merged and counted up to a tick, and rounds that come again.
use Rattle.std.specs.Prelude.{ℕ, ◌≡◌, ◌<◌, ◌≤◌, ◌+◌, ◌*◌, true, List, ◌∷◌, length, map, Option, None, Some, slice_index, slice_index_or}
use Rattle.std.specs.List.{AllByRecursion}
use Rattle.sched_base.specs.declared.rows.Leaf.{Leaf}
use Rattle.sched_base.specs.declared.rows.NodeId.{NodeId}
use Rattle.sched_base.specs.declared.rows.Row.{Row}
use Rattle.sched_base.specs.Lanes.{lanes_of}
use Rattle.sched_base.specs.Scale.{PeriodsDivide}
use Rattle.sched_base.specs.Tables.{IsTable, end_of, lane_of, rounds_in, row_limit}
use Rattle.run_tree.specs.Tree.{Tree, dual, leaf, member, members}
use Rattle.run_tree.specs.TreeOfSet.{is_idle}
use Rattle.run_tree.specs.Plans.{PlanContents}
use Rattle.hyperperiod_laws.specs.Hyperperiods.{IdlesApart, IsLeftAgain}
use Rattle.event_core.specs.Cores.{CoreContents, IsCoreOf, places_of}
use Rattle.event_core.specs.Rounds.{IsRoundUpTo, event_at, rounds_before, rows_before}
use Rattle.merged_rows.specs.Merging.{merged}
use Rattle.merged_rounds.specs.declared.laps.Lap.{Lap}
use Rattle.merged_rounds.specs.declared.laps.Later.{Later}
use Rattle.merged_rounds.specs.declared.sums.RoundSum.{RoundSum}
use Rattle.round_looks.specs.Looks.{leaf_at}
use Rattle.merged_rounds.specs.Passes.{IsKept}

-- these are the rounds up to a tick, merged and counted, and there was room for their rows
pub record IsSumUpTo (p : PlanContents) (to : ℕ) (sum : RoundSum) : Type 0 where
  pub count : sum.rounds ≡ rounds_before p to
  pub few : sum.rounds * p.tree.processors ≤ row_limit
  pub lanes : sum.rows.lanes ≡ map merged (lanes_of p.tree.processors (rows_before p to))
  pub tick : sum.rows.end ≡ to
  pub table : IsTable (lanes_of p.tree.processors (rows_before p to))
  pub end : end_of (lanes_of p.tree.processors (rows_before p to)) ≡ to
  pub rounds : rounds_in (lanes_of p.tree.processors (rows_before p to)) ≡ rounds_before p to

-- The rounds up to the core's tick are merged, and where a node is kept of a processor, it shows what the last row shows.
pub record IsMerging (p : PlanContents) (core : CoreContents) (so_far : RoundSum) (nodes : List (Option NodeId)) : Type 0 where
  pub belongs : IsCoreOf p core
  pub sum : IsSumUpTo p core.tick so_far
  pub kept : (q : ℕ) → q < p.tree.processors → IsKept p core.tick (lane_of so_far.rows.lanes q) (slice_index_or nodes q None)

-- ---- rounds that come again

-- of each processor it is told what it shows in the round from `start` up to `end`
pub record IsAllTold (p : PlanContents) (start end : ℕ) (told : List (Option Leaf)) : Type 0 where
  pub long : length told ≡ p.tree.processors
  pub each : (q : ℕ) (none : Row) → q < p.tree.processors → slice_index_or told q None ≡ Some (leaf_at p start end q none)

-- Rounds that follow one another are known by their ends: the tick at which round i begins, where the first begins at tick `from`;
-- and where there are i rounds, the tick at which the last one ends.
abbrev pub round_start : ℕ → List ℕ → ℕ → ℕ
round_start from ends i = slice_index (from ∷ ends) i

-- these are the ends of rounds from tick `from` on, and in the second list stands what each processor shows in each
pub record IsLap (p : PlanContents) (from : ℕ) (ends : List ℕ) (all : List (Option Leaf)) : Type 0 where
  pub round : (i : ℕ) → i < length ends → IsRoundUpTo p (round_start from ends i) (slice_index ends i)
  pub later : (i : ℕ) → i ≤ length ends → from ≤ round_start from ends i
  pub told : (i q : ℕ) (none : Row) → i < length ends → q < p.tree.processors →
      slice_index_or all (i * p.tree.processors + q) None ≡ Some (leaf_at p (round_start from ends i) (slice_index ends i) q none)
  pub long : length all ≡ length ends * p.tree.processors

-- the lap has the ends of the rounds from this tick on, and what each processor shows in each
abbrev pub IsLapFrom : PlanContents → ℕ → Lap → Type 0
IsLapFrom p from lap = IsLap p from lap.ends.items lap.told.items

-- the tick at which it ends
abbrev pub lap_end : ℕ → Lap → ℕ
lap_end from lap = round_start from lap.ends.items (length lap.ends.items)

-- no task has an offset, and idle leaves stand apart: then what runs comes round
pub record CanComeRound (p : PlanContents) : Type 0 where
  pub on_time : AllByRecursion (λ t. t.offset ≡ 0) p.set.tasks
  pub apart : IdlesApart p.tree

-- so many ticks are a multiple of the hyperperiod
pub record AreTurns (p : PlanContents) (ticks : ℕ) : Type 0 where
  pub units : ℕ
  pub are : ticks ≡ units * p.tree.scale
  pub some : 1 ≤ units
  pub whole : PeriodsDivide p.set.tasks units

-- the packs stand on processors at tick `from` as they do so many ticks later, a multiple of the hyperperiod
pub record ComesAgain (p : PlanContents) (from ticks : ℕ) : Type 0 where
  pub turns : AreTurns p ticks
  pub places : places_of p (from + ticks) ≡ places_of p from

-- At tick `from` no task waits, and so many ticks later a round begins, as much is left of each due as there, but for those of idle leaves,
-- and the places are the same.
pub record StandsLaterAgain (p : PlanContents) (from ticks : ℕ) : Type 0 where
  pub turns : AreTurns p ticks
  pub left : IsLeftAgain p.set p.tree turns.units from
  pub places : places_of p (from + ticks) ≡ places_of p from
  pub event : event_at p (from + ticks) ≡ true

-- these rounds come again so many ticks later
pub record IsLapAgain (p : PlanContents) (when : Later) (rounds : Lap) : Type 0 where
  pub again : StandsLaterAgain p when.from when.ticks
  pub lap : IsLapFrom p when.from rounds

-- pack p doesn't hold two idle leaves, and where it holds an idle leaf alone it is a root
pub record IsApartAt (t : Tree) (p : ℕ) : Type 0 where
  pub one : (j k : ℕ) → j < length (members t p) → k < length (members t p) → is_idle (leaf t (member t p j)) ≡ true →
      is_idle (leaf t (member t p k)) ≡ true → j ≡ k
  pub root : length (members t p) ≡ 1 → is_idle (leaf t (member t p 0)) ≡ true → dual t p ≡ None
