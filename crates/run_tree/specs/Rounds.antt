-- Events, between which nothing changes, and the rounds between them.
use Rattle.std.specs.Prelude.{ℕ, zero, suc, ◌/◌, ◌%◌, ◌==◌, ◌&&◌, ◌||◌, not, Bool, true, false, List, filter, length}
use Rattle.std.specs.List.{range_with_len, list_any}
use Rattle.sched_base.specs.declared.rows.Leaf.{Leaf}
use Rattle.sched_base.specs.declared.rows.Leaf.TheVariants.{Task, Wait, Idle, Empty}
use Rattle.run_tree.specs.Tree.{Tree, kind_at, leaf, is_leaf, is_pack}
use Rattle.run_tree.specs.Runs.{runs, due_left, ticks_below}

-- whether the leaf is a task
abbrev pub is_task : Leaf → Bool
is_task (Task id) = true
is_task (Wait id) = false
is_task (Idle number) = false
is_task Empty = false

-- node x is a task with a boundary at tick n
abbrev pub task_begins : (Leaf → ℕ → Bool) → Tree → ℕ → ℕ → Bool
task_begins of_leaf t n x = is_leaf (kind_at t x) && is_task (leaf t x) && of_leaf (leaf t x) (n / t.scale)

-- node x is a member that ran at this tick and has no due left at the next
abbrev pub runs_dry : (Leaf → ℕ → Bool) → Tree → ℕ → ℕ → Bool
runs_dry of_leaf t n x = not (is_pack (kind_at t x)) && runs of_leaf t x n && due_left of_leaf t (ticks_below of_leaf t (suc n)) x == 0

-- whether tick n is an event: tick 0, a boundary of a task, or one at which a member that ran before has no due left
unfoldable pub is_event : (Leaf → ℕ → Bool) → Tree → ℕ → Bool
is_event of_leaf t zero = true
is_event of_leaf t (suc n) =
    (suc n % t.scale == 0 && list_any (λ x. task_begins of_leaf t (suc n) x) (range_with_len 0 (length t.nodes)))
    || list_any (λ x. runs_dry of_leaf t n x) (range_with_len 0 (length t.nodes))

-- the events below tick `stop`, in order: each begins a round
abbrev pub events_below : (Leaf → ℕ → Bool) → Tree → ℕ → List ℕ
events_below of_leaf t stop = filter (is_event of_leaf t) (range_with_len 0 stop)
