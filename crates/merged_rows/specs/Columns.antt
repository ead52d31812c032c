-- Merged rows by where they begin and what they show.
use Rattle.std.specs.Prelude.{ℕ, ◌≡◌, ◌≢◌, ◌+◌, ◌<◌, ◌⊎◌, ◌==◌, Bool, true, false, if◌then◌else◌, List, [], ◌∷◌, ◌++◌, length, Option, None, Some}
use Rattle.std.specs.Prelude.{slice_get, slice_index, slice_index_or}
use Rattle.sched_base.specs.declared.rows.Leaf.{Leaf}
use Rattle.sched_base.specs.declared.rows.Row.{Row}
use Rattle.sched_base.specs.Tables.{lane_of}
use Rattle.merged_rows.specs.Merging.{shown}

-- a row as it begins
pub record Begun : Type 0 where
  pub start : ℕ
  pub leaf : Leaf

-- what is seen of merged rows: those of each processor, the tick up to which they go, and the same rows as they begin
pub record MergedContents : Type 0 where
  pub lanes : List (List Row)
  pub end : ℕ
  pub begun : List (List Begun)

-- the rows of processor p: each goes on up to the start of the next one, the last up to `end`
abbrev pub rows_up_to : ℕ → ℕ → List Begun → List Row
rows_up_to p end [] = []
rows_up_to p end (b ∷ []) = record { processor = p; start = b.start; end = end; leaf = b.leaf } ∷ []
rows_up_to p end (b ∷ (next ∷ later)) = record { processor = p; start = b.start; end = next.start; leaf = b.leaf } ∷ rows_up_to p end (next ∷ later)

-- the rows of all processors from p on
abbrev pub lanes_up_to : ℕ → ℕ → List (List Begun) → List (List Row)
lanes_up_to p end [] = []
lanes_up_to p end (lane ∷ lanes) = rows_up_to p end lane ∷ lanes_up_to (p + 1) end lanes

-- whether the last row shows what this leaf does
abbrev pub shows_last : List Begun → Leaf → Bool
shows_last [] leaf = false
shows_last (b ∷ []) leaf = shown b.leaf == shown leaf
shows_last (b ∷ (next ∷ later)) leaf = shows_last (next ∷ later) leaf

-- a number for what the last row shows: 0 where there is none, and else what is printed and one more
abbrev pub last_mark : List Begun → ℕ
last_mark [] = 0
last_mark (b ∷ []) = shown b.leaf + 1
last_mark (b ∷ (next ∷ later)) = last_mark (next ∷ later)

-- the processor shows this leaf from here on: where the last row shows the same, it goes on
abbrev pub showing : List Begun → ℕ → Leaf → List Begun
showing lane start leaf = if shows_last lane leaf then lane else lane ++ record { start = start; leaf = leaf } ∷ []

-- each processor shows what its row does
abbrev pub showing_each : List (List Begun) → ℕ → List Row → List (List Begun)
showing_each [] start rows = []
showing_each (lane ∷ lanes) start [] = lane ∷ lanes
showing_each (lane ∷ lanes) start (r ∷ rows) = showing lane start r.leaf ∷ showing_each lanes start rows

-- the processor shows this leaf from here on, where one is told; else its last row goes on
abbrev pub going_on : List Begun → ℕ → Option Leaf → List Begun
going_on lane start None = lane
going_on lane start (Some leaf) = showing lane start leaf

-- each processor shows the leaf that is told of it from here on; where none is told its last row goes on
abbrev pub going_on_each : List (List Begun) → ℕ → List (Option Leaf) → List (List Begun)
going_on_each [] start told = []
going_on_each (lane ∷ lanes) start [] = lane ∷ lanes
going_on_each (lane ∷ lanes) start (o ∷ told) = going_on lane start o ∷ going_on_each lanes start told

-- whether the last of these rows shows what this leaf does
abbrev pub ends_showing : List Row → Leaf → Bool
ends_showing [] leaf = false
ends_showing (r ∷ []) leaf = shown r.leaf == shown leaf
ends_showing (r ∷ (next ∷ later)) leaf = ends_showing (next ∷ later) leaf

-- Of each processor it is told what its row of a round shows, or nothing where its last row before shows the same.
pub record AreChangesTold (lanes : List (List Row)) (told : List (Option Leaf)) (rows : List Row) : Type 0 where
  pub long : length rows ≡ length told
  pub some : (p : ℕ) (r : Row) (leaf : Leaf) → slice_get rows p ≡ Some r → slice_index_or told p None ≡ Some leaf → leaf ≡ r.leaf
  pub none : (p : ℕ) (r : Row) → slice_get rows p ≡ Some r → slice_index_or told p None ≡ None → ends_showing (lane_of lanes p) r.leaf ≡ true

-- Each of the first n of these processors, and maybe others, goes on as is told of it; each other one stays as it was.
pub record AreGoingOn (first : List (List Begun)) (start : ℕ) (changed : List ℕ) (told : List (Option Leaf)) (lanes : List (List Begun)) (n : ℕ) : Type 0 where
  pub long : length lanes ≡ length first
  pub each : (p : ℕ) → p < length first → (slice_index_or lanes p [] ≡ going_on (slice_index_or first p []) start (slice_index_or told p None))
      ⊎ ((slice_index_or lanes p [] ≡ slice_index_or first p []) × ((k : ℕ) → k < n → slice_index changed k ≢ p))

-- Of each processor it is known what its row of a round shows, and for one that isn't among these its last row before shows the same.
pub record AreShown (lanes : List (List Row)) (changed : List ℕ) (leaves : List (Option Leaf)) (rows : List Row) : Type 0 where
  pub long : length rows ≡ length leaves
  pub each : (p : ℕ) (r : Row) → slice_get rows p ≡ Some r → slice_index_or leaves p None ≡ Some r.leaf
  pub rest : (p : ℕ) (r : Row) → slice_get rows p ≡ Some r → ((k : ℕ) → k < length changed → slice_index changed k ≢ p)
      → ends_showing (lane_of lanes p) r.leaf ≡ true
