-- Where a plan's schedule stands at a tick.
use Rattle.std.specs.Prelude.{ℕ, ◌≡◌, ◌⊎◌, false, List}
use Rattle.std.specs.List.{AllByRecursion}
use Rattle.run_tree.specs.Tree.{IsMember, leaf}
use Rattle.run_tree.specs.TreeOfSet.{is_idle}
use Rattle.run_tree.specs.Plans.{PlanContents}
use Rattle.event_core.specs.Cores.{HasLeft, left_of, places_of}
use Rattle.merged_rounds.specs.declared.standings.Standing.{Standing}

-- no task of a plan has an offset
abbrev pub IsOnTime : PlanContents → Type 0
IsOnTime p = AllByRecursion (λ t. t.offset ≡ 0) p.set.tasks

-- the list has what is left of each due at a tick, where tasks have offsets
abbrev pub IsLeftAt : PlanContents → ℕ → List ℕ → Type 0
IsLeftAt p tick left = IsOnTime p ⊎ HasLeft p tick left

-- these are the places at its tick, and what is left there
pub record IsStanding (p : PlanContents) (s : Standing) : Type 0 where
  pub places : s.places ≡ places_of p s.tick
  pub left : IsLeftAt p s.tick s.left.items

-- The places are the same at two ticks, and where tasks have offsets, as much is left of each due, but for those of idle leaves.
pub record StandsAlike (p : PlanContents) (before after : ℕ) : Type 0 where
  pub places : places_of p after ≡ places_of p before
  pub left : IsOnTime p ⊎ ((x : ℕ) → IsMember p.tree x → is_idle (leaf p.tree x) ≡ false → left_of p x after ≡ left_of p x before)
