-- A long table, for a test.
use Rattle.std.specs.Prelude.{ℕ, zero, suc, ◌+◌, List, [], ◌∷◌, ◌++◌}
use Rattle.sched_base.specs.declared.rows.Leaf.TheVariants.{Task}
use Rattle.sched_base.specs.declared.rows.Row.{Row}

-- task 0 on processor 0 at tick n
abbrev pub steady_row : ℕ → Row
steady_row n = record { processor = 0; start = n; end = n + 1; leaf = Task (record { 0 = 0 }) }

-- task 0 on processor 0 tick by tick up to tick n
unfoldable pub steady_rows : ℕ → List Row
steady_rows zero = []
steady_rows (suc n) = steady_rows n ++ steady_row n ∷ []
