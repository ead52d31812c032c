-- Parts of definitions that the lemmas name.
use Rattle.std.specs.Prelude.{ℕ, List, length, ◌+◌}
use Rattle.sched_base.specs.declared.rows.Row.{Row}
use Rattle.sched_base.specs.Sets.{SetContents}
use Rattle.trace_verdict.specs.Faults.{first_task_line}

-- the line of the total of task j
abbrev pub line_of_total : SetContents → List Row → ℕ → ℕ
line_of_total s rows j = first_task_line + length s.tasks + length rows + j
