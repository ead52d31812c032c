-- Who runs on which processor, and the rows of the schedule.
use Rattle.std.specs.Prelude.{ℕ, zero, suc, ◌*◌, nat_lt, Bool, true, false, List, [], ◌∷◌, ◌++◌, map, filter, length, Option, Some}
use Rattle.std.specs.Prelude.{None, slice_index_or}
use Rattle.std.specs.List.{range_with_len}
use Rattle.sched_base.specs.declared.rows.Leaf.{Leaf}
use Rattle.sched_base.specs.declared.rows.Leaf.TheVariants.{Task, Wait, Idle, Empty}
use Rattle.sched_base.specs.declared.rows.Row.{Row}
use Rattle.sched_base.specs.declared.sets.Task as declared
use Rattle.sched_base.specs.Sets.{task_at}
use Rattle.sched_base.specs.Places.{Placing, unplaced, place}
use Rattle.run_tree.specs.Tree.{Tree, leaf, members, at_level}
use Rattle.run_tree.specs.Boundaries.{set_boundary}
use Rattle.run_tree.specs.Runs.{runs}
use Rattle.run_tree.specs.Rounds.{events_below}

-- the packs of level l, in order
abbrev pub packs_at : Tree → ℕ → List ℕ
packs_at t l = filter (at_level t l) (range_with_len 0 (length t.nodes))

-- which packs of level 0 run at tick n
abbrev pub packs_running : (Leaf → ℕ → Bool) → Tree → ℕ → List Bool
packs_running of_leaf t n = map (λ p. runs of_leaf t p n) (packs_at t 0)

-- the places before tick n
abbrev pub places_below : (Leaf → ℕ → Bool) → Tree → ℕ → Placing
places_below of_leaf t zero = unplaced (length (packs_at t 0)) t.processors
places_below of_leaf t (suc n) = place (packs_running of_leaf t n) (places_below of_leaf t n)

-- the pack on each processor at tick n, by its number in level 0
unfoldable pub onto_at : (Leaf → ℕ → Bool) → Tree → ℕ → List (Option ℕ)
onto_at of_leaf t n = (places_below of_leaf t (suc n)).onto

-- the leaf that runs among these members at tick n
abbrev pub leaf_among : (Leaf → ℕ → Bool) → Tree → ℕ → List ℕ → Leaf
leaf_among of_leaf t n [] = Empty
leaf_among of_leaf t n (x ∷ xs) = elim (runs of_leaf t x n) [ true ↦ leaf t x | false ↦ leaf_among of_leaf t n xs ]

-- the leaf that runs in the pack on a processor at tick n
abbrev pub leaf_on : (Leaf → ℕ → Bool) → Tree → ℕ → Option ℕ → Leaf
leaf_on of_leaf t n None = Empty
leaf_on of_leaf t n (Some i) = leaf_among of_leaf t n (members t (slice_index_or (packs_at t 0) i 0))

-- a task before its offset is shown as waiting
abbrev pub shown : List declared.Task → ℕ → ℕ → Leaf → Leaf
shown tasks scale start (Task id) = elim (nat_lt start ((task_at tasks id.0).offset * scale)) [ true ↦ Wait id | false ↦ Task id ]
shown tasks scale start (Wait id) = Wait id
shown tasks scale start (Idle number) = Idle number
shown tasks scale start Empty = Empty

-- the rows of a round from processor p on, where `onto` are the packs from there on
abbrev pub rows_from : List declared.Task → Tree → ℕ → ℕ → ℕ → List (Option ℕ) → List Row
rows_from tasks t start end p [] = []
rows_from tasks t start end p (o ∷ onto) =
    record { processor = p; start = start; end = end; leaf = shown tasks t.scale start (leaf_on (set_boundary tasks) t start o) }
    ∷ rows_from tasks t start end (suc p) onto

-- the rows of the round from `start` up to `end`
unfoldable pub round_rows : List declared.Task → Tree → ℕ → ℕ → List Row
round_rows tasks t start end = rows_from tasks t start end 0 (onto_at (set_boundary tasks) t start)

-- the rows of the rounds that begin at this event and the later ones, the last one cut at `stop`
abbrev pub rows_of : List declared.Task → Tree → ℕ → ℕ → List ℕ → List Row
rows_of tasks t stop event [] = round_rows tasks t event stop
rows_of tasks t stop event (next ∷ events) = round_rows tasks t event next ++ rows_of tasks t stop next events

-- the rows of the rounds that begin at these events
abbrev pub rows_of_events : List declared.Task → Tree → ℕ → List ℕ → List Row
rows_of_events tasks t stop [] = []
rows_of_events tasks t stop (event ∷ events) = rows_of tasks t stop event events

-- the rows of the schedule up to tick `stop`, round by round
unfoldable pub schedule : List declared.Task → Tree → ℕ → List Row
schedule tasks t stop = rows_of_events tasks t stop (events_below (set_boundary tasks) t stop)

-- how many rounds there are up to tick `stop`
unfoldable pub rounds : List declared.Task → Tree → ℕ → ℕ
rounds tasks t stop = length (events_below (set_boundary tasks) t stop)
