-- Packs of level 0 that are placed by what each shows.
use Rattle.std.specs.Prelude.{ℕ, ◌<◌, ◌≡◌, List, Option, None, length, slice_index_or}
use Rattle.std.specs.List.{AllByRecursion}
use Rattle.sched_base.specs.declared.rows.Leaf.{Leaf}
use Rattle.sched_base.specs.Places.{is_held}
use Rattle.run_tree.specs.Plans.{PlanContents}
use Rattle.event_core.specs.Cores.{places_of}
use Rattle.event_core.specs.Rounds.{IsRoundUpTo}
use Rattle.merged_rounds.specs.Replays.{IsPackOn, packs_of}
use Rattle.merged_rounds.specs.Shown.{is_some}
use Rattle.part_rounds.specs.declared.placed.Placed.{Placed}

-- at this tick this is what each pack of level 0 shows, or nothing, where it rests
pub record AreShown (p : PlanContents) (tick : ℕ) (shows : List (Option Leaf)) : Type 0 where
  pub long : length shows ≡ packs_of p
  pub each : (k : ℕ) → k < packs_of p → IsPackOn p tick k (slice_index_or shows k None)

-- The packs of a plan without offsets stand where they do before the round that starts at this tick, and it is known what each showed in the round
-- that is just gone.
pub record IsPlacedUpTo (p : PlanContents) (tick : ℕ) (placed : Placed) : Type 0 where
  pub on_time : AllByRecursion (λ t. t.offset ≡ 0) p.set.tasks
  pub places : placed.places ≡ places_of p tick
  pub shown : (start : ℕ) → IsRoundUpTo p start tick → AreShown p start placed.before.items
  pub held : (k : ℕ) → k < packs_of p → is_held placed.places.onto k ≡ is_some (slice_index_or placed.before.items k None)
  pub room : placed.changes.room ≡ packs_of p
  pub long : length placed.before.items ≡ packs_of p
