-- Migration of tasks between processors.
use Rattle.std.specs.Prelude.{ℕ, ◌≡◌, true, List}
use Rattle.sched_base.specs.declared.rows.Row.{Row}
use Rattle.sched_base.specs.Rows.{is_of_task, AllApart}

-- all rows of a task have one processor
abbrev pub NoneMigrates : List Row → Type 0
NoneMigrates rows = AllApart (λ r q. (j : ℕ) → is_of_task j r.leaf ≡ true → is_of_task j q.leaf ≡ true → r.processor ≡ q.processor) rows
