-- The packs of a tree's levels, in groups by the words in which their marks stand.
use Rattle.std.specs.Prelude.{ℕ, ◌+◌, ◌*◌, ◌<◌, ◌≤◌, ◌≡◌, ◌&&◌, nat_lt, Bool, true, false, List, length, Option, Some, None, slice_index, slice_index_or}
use Rattle.sched_base.specs.declared.rows.NodeId.{NodeId}
use Rattle.run_tree.specs.Tree.{Tree, IsPack, at_level, level}
use Rattle.run_tree.specs.Schedule.{packs_at}
use Rattle.tree_select.specs.declared.masks.Found.{Found}
use Rattle.tree_select.specs.declared.masks.Group.{Group}
use Rattle.tree_select.specs.declared.masks.Span.{Span}
use Rattle.tree_select.specs.Marks.{has_bit, IsShown}

-- the groups of all levels, which of them are a level's, and the place of each pack in its level
pub record Masks : Type 0 where
  pub groups : List Group
  pub spans : List Span
  pub places : List ℕ

-- stand where there is no such group or level, and are never looked at
abbrev pub no_group : Group
no_group = record { word = 0; mask = 0 }

-- what stands where there is no such level
abbrev pub no_span : Span
no_span = record { from = 0; to = 0 }

-- group number g
abbrev pub group_at : List Group → ℕ → Group
group_at groups g = slice_index_or groups g no_group

-- whether there is a node of this number, and it is a pack of this level
abbrev pub stands_at : Tree → ℕ → ℕ → Bool
stands_at t l n = nat_lt n (length t.nodes) && at_level t l n

-- node p is one of a group
abbrev pub IsOf : Group → ℕ → Type 0
IsOf group p = IsShown group.word group.mask p

-- this is a group of a level: its mask shows the packs of the level whose marks stand in its word, and no other node
pub record IsGroupOf (t : Tree) (l : ℕ) (group : Group) : Type 0 where
  pub near : group.word * 64 ≤ length t.nodes
  pub bits : (k : ℕ) → k < 64 → has_bit group.mask k ≡ stands_at t l (group.word * 64 + k)

-- these groups are those of a level, in the order of their words, and each pack of it is in one
pub record IsSpanOf (t : Tree) (groups : List Group) (l : ℕ) (span : Span) : Type 0 where
  pub within : span.to ≤ length groups
  pub each : (g : ℕ) → span.from ≤ g → g < span.to → IsGroupOf t l (group_at groups g)
  pub rising : (g h : ℕ) → span.from ≤ g → g < h → h < span.to → (group_at groups g).word < (group_at groups h).word
  pub found : (p : ℕ) → IsPack t p → level t p ≡ l → (g : ℕ) × (span.from ≤ g) × (g < span.to) × IsOf (group_at groups g) p

-- span l has the groups of level l, for the first n levels
pub record AreSpansOf (t : Tree) (groups : List Group) (spans : List Span) (n : ℕ) : Type 0 where
  pub long : length spans ≡ n
  pub each : (l : ℕ) → l < n → IsSpanOf t groups l (slice_index_or spans l no_span)

-- of the first n levels, the place of each pack
pub record ArePlacesOf (t : Tree) (places : List ℕ) (n : ℕ) : Type 0 where
  pub long : length places ≡ length t.nodes
  pub each : (l i : ℕ) → l < n → i < length (packs_at t l) → slice_index places (slice_index (packs_at t l) i) ≡ i

-- the groups belong to the tree
pub record AreMasksOf (t : Tree) (m : Masks) : Type 0 where
  pub spans : AreSpansOf t m.groups m.spans t.levels
  pub places : ArePlacesOf t m.places t.levels

-- the groups that were there are still there
pub record IsKept (before after : List Group) : Type 0 where
  pub long : length before ≤ length after
  pub same : (g : ℕ) → g < length before → group_at after g ≡ group_at before g

-- no pack of these groups is marked
abbrev pub AreUnmarked : List Group → List Bool → ℕ → ℕ → Type 0
AreUnmarked groups stale from to = (g p : ℕ) → from ≤ g → g < to → IsOf (group_at groups g) p → slice_index_or stale p false ≡ false

-- the first marked node of a group, or that there is none
abbrev pub IsFirstIn : Group → List Bool → Option NodeId → Type 0
IsFirstIn group stale None = (p : ℕ) → IsOf group p → slice_index_or stale p false ≡ false
IsFirstIn group stale (Some n) = IsOf group n.0 × (slice_index_or stale n.0 false ≡ true)
    × ((p : ℕ) → IsOf group p → p < n.0 → slice_index_or stale p false ≡ false)

-- the first marked pack of a level, which comes from number `from` on
pub record IsNextOf (t : Tree) (groups : List Group) (l : ℕ) (stale : List Bool) (span : Span) (from : ℕ) (found : Found) : Type 0 where
  pub pack : IsPack t found.pack.0
  pub place : found.place < length (packs_at t l)
  pub at : found.pack.0 ≡ slice_index (packs_at t l) found.place
  pub after : from ≤ found.place
  pub marked : slice_index_or stale found.pack.0 false ≡ true
  pub skipped : (k : ℕ) → k < found.place → slice_index_or stale (slice_index (packs_at t l) k) false ≡ false
  pub group : span.from ≤ found.group
  pub in_span : found.group < span.to
  pub before : AreUnmarked groups stale span.from found.group
