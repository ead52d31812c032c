-- The processors on which a round may show something else than the one before.
use Rattle.std.specs.Prelude.{ℕ, ◌<◌, ◌≤◌, ◌≡◌, ◌*◌, List, length, Option, None, Some, slice_index, slice_index_or}
use Rattle.std.specs.List.{AllByRecursion}
use Rattle.sched_base.specs.Places.{Placing}
use Rattle.run_tree.specs.Plans.{PlanContents}

-- from this tick on no task waits for its offset
abbrev pub AllReleased : PlanContents → ℕ → Type 0
AllReleased p tick = AllByRecursion (λ t. t.offset * p.tree.scale ≤ tick) p.set.tasks

-- processor q is one of the first `count`
abbrev pub IsTold : List ℕ → ℕ → ℕ → Type 0
IsTold told count q = (j : ℕ) × (j < count) × (slice_index told j ≡ q)

-- Of the first n packs, the processor that each holds, or held last, is one of the first `count` that are told; and all of these are
-- processors.
pub record AreTold (places : Placing) (packs told : List ℕ) (n count : ℕ) : Type 0 where
  pub few : count ≤ n
  pub each : (k q : ℕ) → k < n → slice_index_or places.last (slice_index packs k) None ≡ Some q → IsTold told count q
  pub processors : (j : ℕ) → j < count → slice_index told j < length places.onto

-- Of the first n packs, the processor that each holds is one of the first `count` that are told; and all of these are processors.
pub record AreHeldTold (onto : List (Option ℕ)) (packs told : List ℕ) (n count : ℕ) : Type 0 where
  pub few : count ≤ n
  pub each : (k q : ℕ) → k < n → slice_index_or onto q None ≡ Some (slice_index packs k) → IsTold told count q
  pub processors : (j : ℕ) → j < count → slice_index told j < length onto
