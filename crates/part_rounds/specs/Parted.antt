-- The rounds of a plan by those of its parts.
use Rattle.std.specs.Prelude.{ℕ, ◌<◌, ◌≤◌, ◌≡◌, ◌⊎◌, List, Option, None, Some, length, slice_get, slice_index, slice_index_or}
use Rattle.std.specs.List.{AllByRecursion}
use Rattle.sched_base.specs.declared.rows.Leaf.{Leaf}
use Rattle.run_tree.specs.Plans.{IsPlan, PlanContents, stop_of}
use Rattle.event_core.specs.Rounds.{IsRoundStart}
use Rattle.merged_rounds.specs.Replays.{packs_of}
use Rattle.part_plans.specs.PartPlans.{onto_of}
use Rattle.part_rounds.specs.declared.sources.PartRounds.{PartRounds}
use Rattle.part_rounds.specs.declared.parted.Parted.{Parted}
use Rattle.part_rounds.specs.PartRounds.{IsGoing, IsPartRoundsOf}
use Rattle.part_rounds.specs.Placed.{IsPlacedUpTo}

-- each node of the plan stands in one of these parts, and has a like there
pub record IsCovered (whole : PlanContents) (parts : List PartRounds) (part like : List ℕ) : Type 0 where
  pub within : (x : ℕ) → x < length whole.tree.nodes → slice_index part x < length parts
  pub known : (x : ℕ) (r : PartRounds) → x < length whole.tree.nodes → slice_get parts (slice_index part x) ≡ Some r →
      slice_index like x < length r.part.plan.tree.nodes
  pub likes : (x : ℕ) (r : PartRounds) → x < length whole.tree.nodes → slice_get parts (slice_index part x) ≡ Some r → onto_of r.part (slice_index like x) ≡ x

-- of each pack of a part this list tells by its number in the whole plan what the part tells of it
abbrev pub IsToldOf : PartRounds → List (Option Leaf) → Type 0
IsToldOf r shows = (k : ℕ) → k < packs_of r.part.plan → slice_index_or shows (slice_index r.part.packs.items k) None ≡ slice_index_or r.shows.items k None

-- The rounds of a plan without offsets up to a tick: those of each of its parts, of which the present one goes on there or ends, and the places.
pub record IsPartedOf (whole : PlanContents) (r : Parted) : Type 0 where
  pub on_time : AllByRecursion (λ t. t.offset ≡ 0) whole.set.tasks
  pub covered : IsCovered whole r.parts.items r.part.items r.like.items
  pub each : (c : ℕ) (s : PartRounds) → slice_get r.parts.items c ≡ Some s → IsPartRoundsOf whole s
  pub lawful : (c : ℕ) (s : PartRounds) → slice_get r.parts.items c ≡ Some s → IsPlan s.part.plan
  pub going : (c : ℕ) (s : PartRounds) → slice_get r.parts.items c ≡ Some s →
      ((r.tick ≡ 0) × (s.end ≡ 0)) ⊎ IsGoing s.part r.tick s.end s.shows.items
  pub told : (c : ℕ) (s : PartRounds) → slice_get r.parts.items c ≡ Some s → (r.tick ≡ 0 → ⊥) → IsToldOf s r.shows.items
  pub long : length r.shows.items ≡ packs_of whole
  pub event : IsRoundStart whole r.tick
  pub within : r.tick ≤ stop_of whole
  pub placed : IsPlacedUpTo whole r.tick r.placed
