-- Parts of definitions that the lemmas name.
use Rattle.std.specs.Prelude.{ℕ, List, ◌++◌, length, codes}
use Rattle.std.specs.List.{flat_map, range_with_len}
use Rattle.sched_base.specs.declared.rows.Row.{Row}
use Rattle.sched_base.specs.Sets.{SetContents}
use Rattle.sched_base.specs.Tables.{lane_of}
use Rattle.table_text.specs.Lines.{task_line}
use Rattle.table_text.specs.Table.{lane_text}

-- the tasks, and one that isn't counted
abbrev pub tasks_text : SetContents → List ℕ
tasks_text s = flat_map task_line s.tasks ++ codes "  {\"\", 0u, 0u, 0u}\n};\n\n"

-- the rows of all processors
abbrev pub lanes_text : ℕ → List (List Row) → List ℕ
lanes_text step lanes = flat_map (λ p. lane_text step p (lane_of lanes p)) (range_with_len 0 (length lanes))
