-- The ticks of each task in merged rows.
use Rattle.std.specs.Prelude.{ℕ, ◌<◌, ◌^◌, List}
use Rattle.sched_base.specs.declared.rows.Row.{Row}
use Rattle.sched_base.specs.Tables.{ticks_in}

-- the ticks of each task's rows fit into 128 bits
abbrev pub TicksFit : List Row → Type 0
TicksFit rows = (j : ℕ) → ticks_in j rows < 2 ^ 128
