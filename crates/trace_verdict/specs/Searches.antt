-- What the searches for the first fault find.
use Rattle.std.specs.Prelude.{ℕ, ◌*◌, ◌<◌, ◌≤◌, ◌≡◌, ◌≢◌, nat_eq, nat_lt, nat_le, not, Bool, true, false, ◌&&◌, List, length}
use Rattle.std.specs.Prelude.{slice_index_or, Option, Some, None}
use Rattle.std.specs.List.{AllByRecursion}
use Rattle.sched_base.specs.declared.rows.Leaf.{Leaf}
use Rattle.sched_base.specs.declared.rows.Leaf.TheVariants as leaves
use Rattle.sched_base.specs.declared.rows.Row.{Row}
use Rattle.sched_base.specs.declared.sets.Task.{Task}
use Rattle.sched_base.specs.Sets.{SetContents, task_at}
use Rattle.trace_verdict.specs.declared.entries.Entry.{Entry}
use Rattle.trace_verdict.specs.declared.supply.Periods.{Periods}
use Rattle.trace_verdict.specs.declared.faults.FaultKind.{FaultKind}
use Rattle.trace_verdict.specs.declared.faults.FaultKind.TheVariants.{Processor, End, ProcessorOverlap, TaskOverlap, Early}
use Rattle.trace_verdict.specs.Faults.{row_at, MissesDue}

-- each starts before the other ends
abbrev pub overlaps : Row → Row → Bool
overlaps r q = nat_lt r.start q.end && nat_lt q.start r.end

-- both have a key, and it is the same
abbrev pub same_key : Option ℕ → Option ℕ → Bool
same_key None b = false
same_key (Some x) None = false
same_key (Some x) (Some y) = nat_eq x y

-- rows k and i have one key and overlap
abbrev pub hits : (Row → Option ℕ) → List Row → ℕ → ℕ → Bool
hits key rows i k = same_key (key (row_at rows k)) (key (row_at rows i)) && overlaps (row_at rows k) (row_at rows i)

-- the first row that overlaps an earlier one of its key, or the number of rows
pub record IsFirstHit (key : Row → Option ℕ) (rows : List Row) (i : ℕ) : Type 0 where
  pub within : i ≤ length rows
  pub before : (k j : ℕ) → k < j → j < i → hits key rows j k ≡ false
  pub at : i < length rows → (k : ℕ) × (k < i) × (hits key rows i k ≡ true)

-- a row of this leaf begins before its task does
abbrev pub is_early_leaf : SetContents → ℕ → ℕ → Leaf → Bool
is_early_leaf s scale start (leaves.Task id) = nat_lt start ((task_at s.tasks id.0).offset * scale)
is_early_leaf s scale start (leaves.Wait id) = false
is_early_leaf s scale start (leaves.Idle number) = false
is_early_leaf s scale start leaves.Empty = false

-- the row begins before its task does
abbrev pub is_early : SetContents → ℕ → Row → Bool
is_early s scale r = is_early_leaf s scale r.start r.leaf

-- each task has begun by this tick
abbrev pub HaveBegun : List Task → ℕ → ℕ → Type 0
HaveBegun tasks scale tick = (j : ℕ) → j < length tasks → (task_at tasks j).offset * scale ≤ tick

-- the row has no fault by itself
abbrev pub is_fit : SetContents → ℕ → Row → Bool
is_fit s scale r = (nat_lt r.processor s.processors && nat_le r.end (s.horizon * scale)) && not (is_early s scale r)

-- the first row that has a fault by itself, or the number of rows
pub record IsFirstUnfit (s : SetContents) (scale : ℕ) (rows : List Row) (i : ℕ) : Type 0 where
  pub within : i ≤ length rows
  pub before : (j : ℕ) → j < i → is_fit s scale (row_at rows j) ≡ true
  pub at : i < length rows → is_fit s scale (row_at rows i) ≡ false

-- the first task with a period that has not what it is to have, or the number of tasks
pub record IsFirstUnsupplied (s : SetContents) (scale : ℕ) (rows : List Row) (j : ℕ) : Type 0 where
  pub within : j ≤ length s.tasks
  pub before : (i k : ℕ) → i < j → MissesDue s scale rows i k → ⊥
  pub at : j < length s.tasks → (k : ℕ) × MissesDue s scale rows j k

-- the first kind whose test holds
abbrev pub kind_of : Bool → Bool → Bool → Bool → FaultKind
kind_of true end hit task_hit = Processor
kind_of false true hit task_hit = End
kind_of false false true task_hit = ProcessorOverlap
kind_of false false false true = TaskOverlap
kind_of false false false false = Early

-- the periods of a task, in ticks
abbrev pub periods_of : SetContents → ℕ → Task → Periods
periods_of s scale t = record { base = t.offset * scale; period = t.period * scale; due = t.work * scale; stop = s.horizon * scale }

-- the key of entry i
abbrev pub key_at : List Entry → ℕ → ℕ
key_at entries i = (slice_index_or entries i (record { key = 0; start = 0; place = 0; end = 0 })).key

-- the first n entries are those at the front that have this key
pub record AreFirstWithKey (key : ℕ) (entries : List Entry) (n : ℕ) : Type 0 where
  pub within : n ≤ length entries
  pub has : (k : ℕ) → k < n → key_at entries k ≡ key
  pub ends : n < length entries → key_at entries n ≢ key

-- an entry of a row that has no fault by itself
pub record IsWithin (n stop : ℕ) (base : ℕ → ℕ) (e : Entry) : Type 0 where
  pub place : e.place < n
  pub long : e.start < e.end
  pub begins : base e.key ≤ e.start
  pub ends : e.end ≤ stop

-- all are entries of n rows that have no fault by themselves
abbrev pub IsAllWithin : SetContents → ℕ → ℕ → List Entry → Type 0
IsAllWithin s scale n entries = AllByRecursion (IsWithin n (s.horizon * scale) (λ j. (task_at s.tasks j).offset * scale)) entries
