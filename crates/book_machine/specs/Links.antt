-- What the links of a table say: of each row its leaf's last row before it on another processor.
use Rattle.std.specs.Prelude.{ℕ, ◌≡◌, ◌≢◌, ◌<◌, ◌≤◌, ◌+◌, ◌*◌, ◌/◌, ◌%◌, ◌^◌, ◌⊎◌, ◌↔◌, nat_lt, nat_eq, if◌then◌else◌}
use Rattle.std.specs.Prelude.{List, [], Option, Some, None, Bool, true, IsTrue, length, slice_set, slice_index_or}
use Rattle.sched_base.specs.declared.rows.Row.{Row}
use Rattle.sched_base.specs.declared.rows.Leaf.{Leaf}
use Rattle.sched_base.specs.declared.rows.Leaf.TheVariants.{Task, Idle, Wait, Empty}
use Rattle.sched_base.specs.Tables.{Table, RowAt, rounds_in}
use Rattle.book_machine.specs.Machine.{State, posted_at, EarlierPosted}
use Rattle.book_machine.specs.declared.links.Link.{Link}
use Rattle.book_machine.specs.declared.links.Link.TheVariants.{First, After, Unknown}
use Rattle.book_machine.specs.declared.links.Latest.{Latest}
use Rattle.book_machine.specs.declared.links.Latest.TheVariants.{NoRow, Last, Lost}
use Rattle.book_machine.specs.declared.links.Place.{Place}

-- the link of four bytes: the lane above the round, as far as there are 255 lanes and 2^24 rounds
abbrev pub link_of : ℕ → Link
link_of code =
    if nat_lt (code / 2 ^ 24) 255 then After (record { lane = code / 2 ^ 24; round = code % 2 ^ 24 })
    else if nat_eq code (255 * 2 ^ 24) then First
    else Unknown

-- (u, i) is a place in a round before n, or in round n on a processor below p
abbrev pub IsBefore : ℕ → ℕ → ℕ → ℕ → Type 0
IsBefore n p u i = (i < n) ⊎ ((i ≡ n) × (u < p))

-- (u, i) is in a round before j, or is (q, j)
abbrev pub IsNoLater : ℕ → ℕ → ℕ → ℕ → Type 0
IsNoLater q j u i = (i < j) ⊎ ((i ≡ j) × (u ≡ q))

-- at (q, j) stands the leaf's last row before (n, p) on another processor than `lane`
pub record IsLink (rows : List (List Row)) (leaf : Leaf) (lane n p q j : ℕ) : Type 0 where
  pub other : q ≢ lane
  pub before : IsBefore n p q j
  pub row : Row
  pub at : RowAt rows q j row
  pub of_leaf : row.leaf ≡ leaf
  pub last : (u i : ℕ) (r : Row) → u ≢ lane → IsBefore n p u i → RowAt rows u i r → r.leaf ≡ leaf → IsNoLater q j u i

-- what a link says of the leaf's rows before (n, p) on other processors than `lane`
abbrev pub LinkMeans : List (List Row) → Leaf → ℕ → ℕ → ℕ → Link → Type 0
LinkMeans rows leaf lane n p First = (u i : ℕ) (r : Row) → u ≢ lane → IsBefore n p u i → RowAt rows u i r → r.leaf ≢ leaf
LinkMeans rows leaf lane n p (After place) = IsLink rows leaf lane n p place.lane place.round
LinkMeans rows leaf lane n p Unknown = Unit {0}

-- at (q, j) stands the leaf's last row before (n, p)
pub record IsLast (rows : List (List Row)) (leaf : Leaf) (n p q j : ℕ) : Type 0 where
  pub before : IsBefore n p q j
  pub row : Row
  pub at : RowAt rows q j row
  pub of_leaf : row.leaf ≡ leaf
  pub last : (u i : ℕ) (r : Row) → IsBefore n p u i → RowAt rows u i r → r.leaf ≡ leaf → IsNoLater q j u i

-- what is kept of a leaf while links are made: no row yet, or its last row with the link of that row, or nothing known
abbrev pub IsLatest : List (List Row) → Leaf → ℕ → ℕ → Latest → Type 0
IsLatest rows leaf n p NoRow = (u i : ℕ) (r : Row) → IsBefore n p u i → RowAt rows u i r → r.leaf ≢ leaf
IsLatest rows leaf n p (Last place link) = IsLast rows leaf n p place.lane place.round × LinkMeans rows leaf place.lane n p link
IsLatest rows leaf n p Lost = Unit {0}

-- what is kept of a leaf once its next row stands there
abbrev pub followed : Latest → Place → Latest
followed NoRow place = Last place First
followed (Last last link) place =
    if nat_eq last.round place.round then Lost
    else if nat_eq last.lane place.lane then Last place link
    else Last place (After last)
followed Lost place = Lost

-- the link of the last row
abbrev pub last_link : Latest → Link
last_link NoRow = Unknown
last_link (Last place link) = link
last_link Lost = Unknown

-- the slot of a leaf among the last rows: tasks and idle leaves by turns
abbrev pub slot_of : Leaf → Option ℕ
slot_of (Task task) = Some (2 * task.0)
slot_of (Idle number) = Some (2 * number + 1)
slot_of (Wait task) = None
slot_of Empty = None

-- what a slot keeps
abbrev pub latest_in : List Latest → Option ℕ → Latest
latest_in latest_rows None = Lost
latest_in latest_rows (Some slot) = slice_index_or latest_rows slot Lost

-- what is kept of a leaf
abbrev pub latest_at : List Latest → Leaf → Latest
latest_at latest_rows leaf = latest_in latest_rows (slot_of leaf)

-- what is kept, with this in a slot
abbrev pub with_latest_in : List Latest → Option ℕ → Latest → List Latest
with_latest_in latest_rows None latest = latest_rows
with_latest_in latest_rows (Some slot) latest = slice_set latest_rows slot latest

-- what is kept, with this of a leaf
abbrev pub with_latest : List Latest → Leaf → Latest → List Latest
with_latest latest_rows leaf latest = with_latest_in latest_rows (slot_of leaf) latest

-- the link of the row of processor p in round k
abbrev pub link_at : List (List Link) → ℕ → ℕ → Link
link_at links p k = slice_index_or (slice_index_or links p []) k Unknown

-- the rows before (n, p) have their links, which tell of earlier rounds, and each leaf its latest up to there
pub record AreLinked (rows : List (List Row)) (n p : ℕ) (links : List (List Link)) (latest_rows : List Latest) : Type 0 where
  pub lanes : length links ≡ length rows
  pub says : (u k : ℕ) (r : Row) → IsBefore n p u k → RowAt rows u k r → LinkMeans rows r.leaf u k 0 (link_at links u k)
  pub ends : (leaf : Leaf) → IsLatest rows leaf n p (latest_at latest_rows leaf)

-- a lane's links keep those before row n, and have this one there, or nothing
pub record KeepsLink (old new : List Link) (n : ℕ) (link : Link) : Type 0 where
  pub before : (k : ℕ) → k < n → slice_index_or new k Unknown ≡ slice_index_or old k Unknown
  pub here : (slice_index_or new n Unknown ≡ link) ⊎ (slice_index_or new n Unknown ≡ Unknown)

-- whether the row to which a link leads is posted, where it is known
abbrev pub posted_by : State → Link → Option Bool
posted_by s First = Some true
posted_by s (After place) = Some (nat_lt place.round (posted_at s place.lane))
posted_by s Unknown = None

-- it is told whether the row on lane p in round k has its leaf's earlier rows posted
abbrev pub AreEarlierPosted : List (List Row) → State → ℕ → ℕ → Bool → Type 0
AreEarlierPosted rows s p k told = (r : Row) × RowAt rows p k r × (IsTrue told ↔ EarlierPosted rows s.lanes p k r.leaf)

-- each posted row has its leaf's earlier rows posted
abbrev pub ArePostedInOrder : List (List Row) → State → Type 0
ArePostedInOrder rows s = (p k : ℕ) (r : Row) → k < posted_at s p → RowAt rows p k r → EarlierPosted rows s.lanes p k r.leaf

-- what the fields of a linked table keep
pub record IsLinkedTable (table : Table) (links : List (List Link)) (latest_rows : List Latest) : Type 0 where
  pub some : 1 ≤ length table.lanes
  pub few : rounds_in table.lanes + table.room < 2 ^ 32
  pub linked : AreLinked table.lanes (rounds_in table.lanes) 0 links latest_rows
