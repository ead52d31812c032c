-- The sums of rows, one for each of the first tasks.
use Rattle.std.specs.Prelude.{ℕ, ◌≡◌, ◌<◌, ◌≤◌, ◌+◌, ◌^◌, List, length, map, slice_index}
use Rattle.std.specs.List.{AllByRecursion, range_with_len}
use Rattle.sched_base.specs.declared.rows.Leaf.{Leaf}
use Rattle.sched_base.specs.declared.rows.Leaf.TheVariants.{Task, Wait, Idle, Empty}
use Rattle.sched_base.specs.declared.rows.Row.{Row}
use Rattle.sched_base.specs.Tables.{all_rows, ticks_in}

-- if the leaf is a task, it is one of the first n
abbrev pub IsAmong : ℕ → Leaf → Type 0
IsAmong n (Task id) = id.0 < n
IsAmong n (Wait id) = Unit {0}
IsAmong n (Idle number) = Unit {0}
IsAmong n Empty = Unit {0}

-- of the tasks the rows name the first n alone
abbrev pub NamesAmong : ℕ → List Row → Type 0
NamesAmong n rows = AllByRecursion (λ r. IsAmong n r.leaf) rows

-- no row ends before it starts
abbrev pub AreForward : List Row → Type 0
AreForward rows = AllByRecursion (λ r. r.start ≤ r.end) rows

-- to each sum the ticks were added that the rows give to its task
abbrev pub Adds : List Row → List ℕ → List ℕ → Type 0
Adds rows before after = (j : ℕ) → j < length before → slice_index after j ≡ slice_index before j + ticks_in j rows

-- the ticks of the rows can be added without overflow
abbrev pub HaveRoomFor : List Row → List ℕ → Type 0
HaveRoomFor rows sums = (j : ℕ) → j < length sums → slice_index sums j + ticks_in j rows < 2 ^ 128

-- for each of the first n tasks, in order, the ticks that the table's rows give to it
abbrev pub totals_of : ℕ → List (List Row) → List ℕ
totals_of n lanes = map (λ j. ticks_in j (all_rows lanes)) (range_with_len 0 n)
