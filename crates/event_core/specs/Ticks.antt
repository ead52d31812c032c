-- The ticks of nodes, in blocks of eight of which the least is known.
use Rattle.std.specs.Prelude.{ℕ, ◌*◌, ◌/◌, ◌<◌, ◌≤◌, ◌≡◌, ◌⊎◌, min, List, length, map, slice_index}
use Rattle.event_core.specs.Serving.{no_tick}

-- the least of `most` and of these ticks
pub record IsFirstTick (ticks : List ℕ) (most least : ℕ) : Type 0 where
  pub below : least ≤ most
  pub all : (x : ℕ) → x < length ticks → least ≤ slice_index ticks x
  pub one : (least ≡ most) ⊎ ((x : ℕ) × (x < length ticks) × (least ≡ slice_index ticks x))

-- the tick of each node, by those at the places of the nodes
abbrev pub ticks_by : List ℕ → List ℕ → List ℕ
ticks_by number ticks = map (λ k. slice_index ticks k) number

-- each node has a place of its own, and each place has a node
pub record ArePlaces (number nodes : List ℕ) (count : ℕ) : Type 0 where
  pub number_long : length number ≡ count
  pub nodes_long : length nodes ≡ count
  pub stands : (x : ℕ) → x < count → slice_index number x < count
  pub back : (x : ℕ) → x < count → slice_index nodes (slice_index number x) ≡ x
  pub within : (k : ℕ) → k < count → slice_index nodes k < count
  pub forth : (k : ℕ) → k < count → slice_index number (slice_index nodes k) ≡ k

-- stands for a tick that has more than 64 bits, and where there is none
abbrev pub no_narrow : ℕ
no_narrow = 18446744073709551615

-- At each place there is the tick, or the greatest number of 64 bits where it is later. From place `used` on there is no tick.
pub record AreNarrowed (narrow ticks : List ℕ) (used : ℕ) : Type 0 where
  pub long : length narrow ≡ length ticks
  pub few : used ≤ length ticks
  pub each : (k : ℕ) → k < length ticks → slice_index narrow k ≡ min (slice_index ticks k) no_narrow
  pub rest : (k : ℕ) → k < length ticks → used ≤ k → slice_index ticks k ≡ no_tick

-- Eight places are a block. No tick of a block comes before the one that is kept of it, and none comes at all from place `used` on.
-- Where all that is used is one block, nothing is known of it.
pub record AreInBlocks (least ticks : List ℕ) (used : ℕ) : Type 0 where
  pub long : length ticks ≤ length least * 8
  pub few : used ≤ length ticks
  pub bound : (k : ℕ) → k < length ticks → slice_index least (k / 8) ≤ slice_index ticks k
  pub none : used ≤ 8 → (b : ℕ) → slice_index least b ≡ 0
  pub rest : (k : ℕ) → k < length ticks → used ≤ k → slice_index ticks k ≡ no_narrow
