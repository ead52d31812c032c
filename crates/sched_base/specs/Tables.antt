-- Whole rounds of rows: for each processor its rows, one for each round.
use Rattle.std.specs.Prelude.{ℕ, ◌≡◌, ◌<◌, ◌≤◌, ◌+◌, ◌-◌, ◌*◌, ◌^◌, List, [], ◌∷◌, ◌++◌, Some, length}
use Rattle.std.specs.Prelude.{slice_get, slice_index_or, take}
use Rattle.sched_base.specs.declared.rows.Leaf.{Leaf}
use Rattle.sched_base.specs.declared.rows.Leaf.TheVariants.{Task}
use Rattle.sched_base.specs.declared.rows.TaskId.{TaskId}
use Rattle.sched_base.specs.declared.rows.Row.{Row}
use Rattle.sched_base.specs.Counting.{bit}
use Rattle.sched_base.specs.Rows.{is_of_task}
pub use Rattle.sched_base.specs.Limits.{row_limit}

-- what a table holds, with the number of further rounds for which it has room
pub record Table : Type 0 where
  pub lanes : List (List Row)
  pub room : ℕ

-- the rows of processor p, in order
abbrev pub lane_of : List (List Row) → ℕ → List Row
lane_of lanes p = slice_index_or lanes p []

-- the row of processor p in round k
abbrev pub RowAt : List (List Row) → ℕ → ℕ → Row → Type 0
RowAt lanes p k r = slice_get (lane_of lanes p) k ≡ Some r

-- how many rounds there are
abbrev pub rounds_in : List (List Row) → ℕ
rounds_in lanes = length (lane_of lanes 0)

-- the tick at which the last of these rows ends, or the one before where there is none
abbrev pub end_after : ℕ → List Row → ℕ
end_after before [] = before
end_after before (r ∷ rows) = end_after r.end rows

-- the tick at which the last round ends and the next one would start
abbrev pub end_of : List (List Row) → ℕ
end_of lanes = end_after 0 (lane_of lanes 0)

-- these are the rows of one round that starts at `start`, in the order of their processors
pub record IsRound (start : ℕ) (rows : List Row) : Type 0 where
  pub own : (p : ℕ) (r : Row) → slice_get rows p ≡ Some r → r.processor ≡ p
  pub starts : (p : ℕ) (r : Row) → slice_get rows p ≡ Some r → r.start ≡ start
  pub forward : (p : ℕ) (r : Row) → slice_get rows p ≡ Some r → (r.start < r.end) × (r.end < 2 ^ 127)
  pub ends : (p q : ℕ) (r s : Row) → slice_get rows p ≡ Some r → slice_get rows q ≡ Some s → r.end ≡ s.end
  -- no task stands twice in it
  pub once : (p q : ℕ) (r s : Row) (task : TaskId) → slice_get rows p ≡ Some r → slice_get rows q ≡ Some s → r.leaf ≡ Task task →
      s.leaf ≡ Task task → p ≡ q

-- the rows of one more round, at the ends of the lanes
abbrev pub with_round : List (List Row) → List Row → List (List Row)
with_round [] rows = []
with_round (lane ∷ lanes) [] = lane ∷ lanes
with_round (lane ∷ lanes) (r ∷ rows) = (lane ++ r ∷ []) ∷ with_round lanes rows

-- what each table keeps: whole rounds of all processors, which follow one another from tick 0
pub record IsTable (lanes : List (List Row)) : Type 0 where
  pub whole : (p : ℕ) → p < length lanes → length (lane_of lanes p) ≡ rounds_in lanes
  pub own : (p k : ℕ) (r : Row) → RowAt lanes p k r → r.processor ≡ p
  pub forward : (p k : ℕ) (r : Row) → RowAt lanes p k r → (r.start < r.end) × (r.end < 2 ^ 127)
  pub first : (p : ℕ) (r : Row) → RowAt lanes p 0 r → r.start ≡ 0
  pub next : (p k : ℕ) (r s : Row) → RowAt lanes p k r → RowAt lanes p (k + 1) s → s.start ≡ r.end
  pub together : (p q k : ℕ) (r s : Row) → RowAt lanes p k r → RowAt lanes q k s → (r.start ≡ s.start) × (r.end ≡ s.end)
  -- no task stands twice in a round
  pub once : (p q k : ℕ) (r s : Row) (task : TaskId) → RowAt lanes p k r → RowAt lanes q k s → r.leaf ≡ Task task → s.leaf ≡ Task task → p ≡ q

-- the rows of all processors, one processor after another
abbrev pub all_rows : List (List Row) → List Row
all_rows [] = []
all_rows (lane ∷ lanes) = lane ++ all_rows lanes

-- the ticks that a row gives to task j
abbrev pub row_ticks : ℕ → Row → ℕ
row_ticks j r = bit (is_of_task j r.leaf) * (r.end - r.start)

-- the ticks that these rows give to task j
abbrev pub ticks_in : ℕ → List Row → ℕ
ticks_in j [] = 0
ticks_in j (r ∷ rows) = row_ticks j r + ticks_in j rows

-- the ticks that the first rows of the lanes give to task j, of each lane as many rows as its count says
abbrev pub ticks_of : ℕ → List (List Row) → List ℕ → ℕ
ticks_of j [] counts = 0
ticks_of j (lane ∷ lanes) [] = 0
ticks_of j (lane ∷ lanes) (n ∷ counts) = ticks_in j (take n lane) + ticks_of j lanes counts

-- the ticks that the rounds before round k give to task j
abbrev pub ticks_before : ℕ → ℕ → List (List Row) → ℕ
ticks_before j k [] = 0
ticks_before j k (lane ∷ lanes) = ticks_in j (take k lane) + ticks_before j k lanes

-- what one processor runs in each round, and for how many more rounds there is room
pub record LaneHeld : Type 0 where
  pub leaves : List Leaf
  pub room : ℕ

-- where each round ends, and for how many more rounds there is room
pub record EndsHeld : Type 0 where
  pub ends : List ℕ
  pub room : ℕ

-- each lane has room for that many rounds
abbrev pub HaveRoom : ℕ → List LaneHeld → Type 0
HaveRoom n lanes = (p : ℕ) (lane : LaneHeld) → slice_get lanes p ≡ Some lane → n ≤ lane.room

-- each lane has a leaf for each of so many rounds
abbrev pub AreFilled : ℕ → List LaneHeld → Type 0
AreFilled n lanes = (p : ℕ) (lane : LaneHeld) → slice_get lanes p ≡ Some lane → length lane.leaves ≡ n

-- the rows of processor p: each goes on up to its round's end, where the next one starts
abbrev pub rows_held : ℕ → ℕ → List ℕ → List Leaf → List Row
rows_held p start [] leaves = []
rows_held p start (end ∷ ends) [] = []
rows_held p start (end ∷ ends) (leaf ∷ leaves) = record { processor = p; leaf = leaf; start = start; end = end } ∷ rows_held p end ends leaves

-- the rows of all processors from p on
abbrev pub lanes_held : ℕ → List ℕ → List LaneHeld → List (List Row)
lanes_held p ends [] = []
lanes_held p ends (lane ∷ lanes) = rows_held p 0 ends lane.leaves ∷ lanes_held (p + 1) ends lanes

-- what the fields of a table keep
pub record IsHeld (ends : EndsHeld) (lanes : List LaneHeld) (room : ℕ) : Type 0 where
  pub few : length lanes < 2 ^ 32
  pub filled : AreFilled (length ends.ends) lanes
  pub table : IsTable (lanes_held 0 ends.ends lanes)
  pub reserved : HaveRoom room lanes
  pub ends_reserved : room ≤ ends.room
