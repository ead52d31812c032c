-- Rows that stand in few bytes.
use Rattle.std.specs.Prelude.{ℕ, ◌==◌, ◌+◌, ◌*◌, ◌/◌, ◌%◌, if◌then◌else◌}
use Rattle.sched_base.specs.declared.rows.Leaf.{Leaf}
use Rattle.sched_base.specs.declared.rows.Leaf.TheVariants.{Task, Idle}
use Rattle.sched_base.specs.declared.rows.Row.{Row}
use Rattle.trace_verdict.specs.declared.row_list.ShortRow.{ShortRow}

-- the leaf that a number stands for: 511 for idle leaf 0, any other for the task of that number
abbrev pub leaf_for : ℕ → Leaf
leaf_for n = if n == 511 then Idle 0 else Task (record { 0 = n })

-- the row that a short one stands for
abbrev pub row_for : ShortRow → Row
row_for r = record { processor = r.owner / 512; leaf = leaf_for (r.owner % 512); start = r.start; end = r.start + (r.high * 4294967296 + r.low) }
