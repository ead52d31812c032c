-- When periods were done by the rows that went by so far.
use Rattle.std.specs.Prelude.{ℕ, ◌≡◌, ◌<◌, ◌+◌, Bool, true, List, [], ◌∷◌, ◌++◌, map, length, slice_index, slice_index_or, EachIndex}
use Rattle.sched_base.specs.declared.rows.Row.{Row}
use Rattle.sched_base.specs.declared.sets.Task.{Task}
use Rattle.sched_base.specs.Sets.{SetContents, task_at}
use Rattle.sched_base.specs.Valid.{period_start}
use Rattle.trace_format.specs.Finishes.{ended_count, finish_between}

-- for each task of the set there is a tick for each of its periods that ends by the horizon
abbrev pub HaveRoom : SetContents → List (List ℕ) → Type 0
HaveRoom s finishes = map length finishes ≡ map (ended_count s) s.tasks

-- there is such room where it is wanted
abbrev pub HaveRoomIf : Bool → SetContents → List (List ℕ) → Type 0
HaveRoomIf wanted s finishes = wanted ≡ true → HaveRoom s finishes

-- the ticks of task j
abbrev pub ends_of : List (List ℕ) → ℕ → List ℕ
ends_of finishes j = slice_index_or finishes j []

-- these ticks tell of each period of task j when it was done by these rows
abbrev pub IsDoneBy : ℕ → Task → ℕ → List Row → List ℕ → Type 0
IsDoneBy scale t j rows ends = EachIndex ends (λ k. slice_index ends k ≡ finish_between rows j (period_start scale t k) (period_start scale t (k + 1)))

-- with one row more, the second ticks tell so of its periods where the first did without it
abbrev pub IsDoneWith : ℕ → Task → ℕ → Row → List ℕ → List ℕ → Type 0
IsDoneWith scale t j row before after = (rows : List Row) → IsDoneBy scale t j rows before → IsDoneBy scale t j (rows ++ row ∷ []) after

-- so do those of each task
abbrev pub AreDoneBy : ℕ → List Task → List Row → List (List ℕ) → Type 0
AreDoneBy scale tasks rows finishes = (j : ℕ) → j < length tasks → IsDoneBy scale (task_at tasks j) j rows (ends_of finishes j)

-- and with one row more
abbrev pub AreDoneWith : ℕ → List Task → Row → List (List ℕ) → List (List ℕ) → Type 0
AreDoneWith scale tasks row before after = (rows : List Row) → AreDoneBy scale tasks rows before → AreDoneBy scale tasks (rows ++ row ∷ []) after
