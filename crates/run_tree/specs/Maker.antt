-- What the maker of trees keeps, and what its calls ask for.
use Rattle.std.specs.Prelude.{ℕ, ◌+◌, ◌*◌, ◌<◌, ◌≤◌, ◌≡◌, ◌^◌, List, [], length, map, slice_index, slice_index_or}
use Rattle.sched_base.specs.Limits.{processor_limit}
use Rattle.sched_base.specs.Counting.{sum_to, bit}
use Rattle.run_tree.specs.Tree.{Tree, kind_at, rate, members, is_leaf}
use Rattle.run_tree.specs.Schedule.{packs_at}
use Rattle.run_tree.specs.Making.{Making}

-- how many leaves a tree has
abbrev pub leaf_count : Tree → ℕ
leaf_count t = sum_to (length t.nodes) (λ x. bit (is_leaf (kind_at t x)))

-- what the type of a maker keeps: the limits, so that all numbers fit
pub record IsMaking (m : Making) : Type 0 where
  pub some_scale : 1 ≤ m.tree.scale
  pub scale_fits : m.tree.scale ≤ 2 ^ 94
  pub some_processors : 1 ≤ m.tree.processors
  pub few_processors : m.tree.processors ≤ processor_limit
  pub some_level : 1 ≤ m.tree.levels
  pub few_levels : m.tree.levels ≤ 4096
  pub few_packs : length m.last ≤ 1280
  pub few_nodes : length m.tree.nodes ≤ 2560 * m.tree.levels
  pub few_members : (p : ℕ) → length (members m.tree p) ≤ length m.tree.nodes
  -- in a tree of one level each pack has a leaf
  pub first_packs : m.tree.levels ≡ 1 → length m.last ≤ leaf_count m.tree
  pub first_nodes : m.tree.levels ≡ 1 → length m.tree.nodes ≡ leaf_count m.tree + length m.last

-- the packs of each level: those of the levels below the last, and those of the last one
pub record HasLevels (lower : List (List ℕ)) (m : Making) : Type 0 where
  pub count : length lower + 1 ≡ m.tree.levels
  pub below : (l : ℕ) → l < length lower → slice_index_or lower l [] ≡ packs_at m.tree l
  pub last : m.last ≡ packs_at m.tree (length lower)
  pub above : (l : ℕ) → m.tree.levels ≤ l → packs_at m.tree l ≡ []

-- what the type of a maker keeps, with the packs of the levels below the last
pub record IsMaker (lower : List (List ℕ)) (m : Making) : Type 0 where
  pub making : IsMaking m
  pub levels : HasLevels lower m

-- packs of the last level by their places there
abbrev pub packs_named : Making → List ℕ → List ℕ
packs_named m order = map (λ i. slice_index m.last i) order

-- the order names each pack of the last level that isn't a root once, by its place there
pub record NamesLower (m : Making) (order : List ℕ) : Type 0 where
  pub lower : (k : ℕ) → k < length order → (slice_index order k < length m.last)
      × (rate m.tree (slice_index m.last (slice_index order k)) < m.tree.scale)
  pub once : (j k : ℕ) → j < length order → k < length order → slice_index order j ≡ slice_index order k → j ≡ k
  pub all : (i : ℕ) → i < length m.last → rate m.tree (slice_index m.last i) < m.tree.scale → (k : ℕ) × (k < length order)
      × (slice_index order k ≡ i)
