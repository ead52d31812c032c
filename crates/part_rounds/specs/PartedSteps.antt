-- The parts of a plan in turn, as the next round of the plan begins.
use Rattle.std.specs.Prelude.{ℕ, ◌<◌, ◌≡◌, ◌⊎◌, List, Option, None, Some, length, slice_get, slice_index, slice_index_or}
use Rattle.sched_base.specs.declared.rows.Leaf.{Leaf}
use Rattle.run_tree.specs.Plans.{IsPlan, PlanContents}
use Rattle.event_core.specs.Told.{IsTold}
use Rattle.merged_rounds.specs.Replays.{IsPackOn}
use Rattle.round_looks.specs.Looks.{leaf_at}
use Rattle.sched_base.specs.declared.rows.Row.{Row}
use Rattle.part_rounds.specs.declared.sources.PartRounds.{PartRounds}
use Rattle.part_rounds.specs.PartRounds.{IsGoing, IsPartRoundsOf}
use Rattle.part_rounds.specs.Parted.{IsToldOf}

-- Of the first n of these packs a list tells what each shows at this tick. Of the others it tells that or what it told before.
pub record IsTelling (whole : PlanContents) (tick : ℕ) (packs : List ℕ) (n : ℕ) (before after : List (Option Leaf)) : Type 0 where
  pub long : length after ≡ length before
  pub told : (k : ℕ) → k < n → IsPackOn whole tick (slice_index packs k) (slice_index_or after (slice_index packs k) None)
  pub rest : (i : ℕ) → (slice_index_or after i None ≡ slice_index_or before i None) ⊎ IsPackOn whole tick i (slice_index_or after i None)

-- the rounds of each of these parts go on at this tick or end there, and this is told of their packs
pub record ArePartsAt (whole : PlanContents) (parts : List PartRounds) (tick : ℕ) (shows : List (Option Leaf)) : Type 0 where
  pub each : (c : ℕ) (s : PartRounds) → slice_get parts c ≡ Some s → IsPartRoundsOf whole s
  pub lawful : (c : ℕ) (s : PartRounds) → slice_get parts c ≡ Some s → IsPlan s.part.plan
  pub going : (c : ℕ) (s : PartRounds) → slice_get parts c ≡ Some s → IsGoing s.part tick s.end s.shows.items
  pub told : (c : ℕ) (s : PartRounds) → slice_get parts c ≡ Some s → IsToldOf s shows

-- of each processor stands what it shows in this round, where it is one of the first n that are told, and else what did before
pub record AreLooked (whole : PlanContents) (start end : ℕ) (told : List ℕ) (n : ℕ) (before after : List (Option Leaf)) : Type 0 where
  pub long : length after ≡ length before
  pub each : (q : ℕ) (none : Row) → q < length before →
      (slice_index_or after q None ≡ Some (leaf_at whole start end q none)) ⊎
      ((IsTold told n q → ⊥) × (slice_index_or after q None ≡ slice_index_or before q None))
