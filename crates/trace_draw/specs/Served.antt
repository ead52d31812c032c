-- What the rows at some places did from one tick up to another.
use Rattle.std.specs.Prelude.{ℕ, ◌+◌, nat_lt, max, if◌then◌else◌, List, [], ◌∷◌}
use Rattle.sched_base.specs.declared.rows.Row.{Row}
use Rattle.sched_base.specs.Rows.{overlap}
use Rattle.trace_verdict.specs.Faults.{row_at}

-- their ticks from a up to b
abbrev pub given_at : List Row → List ℕ → ℕ → ℕ → ℕ
given_at rows [] a b = 0
given_at rows (place ∷ places) a b = overlap (row_at rows place).start (row_at rows place).end a b + given_at rows places a b

-- the greatest end of those that start before tick b, 0 where none does
abbrev pub reach_at : List Row → List ℕ → ℕ → ℕ
reach_at rows [] b = 0
reach_at rows (place ∷ places) b =
    if nat_lt (row_at rows place).start b then max (row_at rows place).end (reach_at rows places b) else reach_at rows places b
