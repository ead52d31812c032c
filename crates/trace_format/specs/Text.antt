-- A trace text, line by line.
use Rattle.std.specs.Prelude.{ℕ, List, [], ◌∷◌, ◌++◌, map, length, codes}
use Rattle.std.specs.List.{flat_map, enumerate_from, range_with_len}
use Rattle.sched_base.specs.declared.rows.Row.{Row}
use Rattle.sched_base.specs.declared.sets.Task.{Task}
use Rattle.sched_base.specs.Sets.{SetContents}
use Rattle.sched_base.specs.Tables.{ticks_in}
use Rattle.sched_edges.specs.Lines.{number_line, named_line}
use Rattle.trace_format.specs.declared.versions.Version.{Version}
use Rattle.trace_format.specs.declared.versions.Version.TheVariants.{One, Two}
use Rattle.trace_format.specs.Lines.{version_number, task_line, row_line, met_line}
use Rattle.trace_format.specs.Finishes.{ended_count, finish}

-- the first lines, up to the tasks
abbrev pub head_lines : Version → SetContents → ℕ → List (List ℕ)
head_lines version s scale = number_line (codes "run-trace") (version_number version) ∷ (number_line (codes "processors") s.processors
    ∷ (number_line (codes "horizon") s.horizon ∷ (number_line (codes "scale") scale ∷ (number_line (codes "tasks") (length s.tasks) ∷ []))))

-- for each task in order the ticks of its rows
abbrev pub total_lines : SetContents → List Row → List (List ℕ)
total_lines s rows = map (λ p. named_line (codes "total") p.1.name (ticks_in p.0 rows)) (enumerate_from 0 s.tasks)

-- for each period of one task that ends by the horizon, in order, when it was done
abbrev pub mets_of_task : ℕ → SetContents → List Row → ℕ × Task → List (List ℕ)
mets_of_task scale s rows p = map (λ k. met_line p.1.name k (finish scale s rows p.0 k)) (range_with_len 0 (ended_count s p.1))

-- the same of all tasks in order; version 1 has none
abbrev pub met_lines : Version → ℕ → SetContents → List Row → List (List ℕ)
met_lines One scale s rows = []
met_lines Two scale s rows = flat_map (mets_of_task scale s rows) (enumerate_from 0 s.tasks)

-- all lines of the trace of these rows
unfoldable pub trace_format : Version → SetContents → ℕ → List Row → List (List ℕ)
trace_format version s scale rows = head_lines version s scale ++ (map (task_line version) s.tasks ++ (map (row_line s.tasks) rows
    ++ (total_lines s rows ++ (met_lines version scale s rows ++ number_line (codes "rows") (length rows) ∷ []))))

-- the text of the trace of these rows
abbrev pub trace_text : Version → SetContents → ℕ → List Row → List ℕ
trace_text version s scale rows = flat_map (λ line. line) (trace_format version s scale rows)
