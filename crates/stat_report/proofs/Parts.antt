-- Parts of definitions that the lemmas name.
use Rattle.std.specs.Prelude.{ℕ, Bool, nat_lt, ◌*◌, ◌&&◌, List, [], ◌∷◌, ◌++◌, map, filter, codes, decimal}
use Rattle.std.specs.List.{find, enumerate_from, range_with_len}
use Rattle.sched_base.specs.declared.rows.Row.{Row}
use Rattle.sched_base.specs.declared.sets.Task.{Task}
use Rattle.sched_base.specs.Rows.{is_of_task}
use Rattle.sched_base.specs.Sets.{SetContents}
use Rattle.sched_edges.specs.Lines.{line_of, named_line}
use Rattle.stat_report.specs.Report.{in_order, response}
use Rattle.stat_report.specs.Chart.{holds, letter, chart}
use Rattle.stat_report.specs.Text.{count_lines}

-- whether the row has a tick from a up to b
abbrev pub reaches : ℕ → ℕ → Row → Bool
reaches a b r = nat_lt r.start b && nat_lt a r.end

-- the rows of task j, in the order of time
abbrev pub rows_in_time : List Row → ℕ → List Row
rows_in_time rows j = in_order (filter (λ r. is_of_task j r.leaf) rows)

-- the letter of processor p for unit j
abbrev pub letter_at : List Task → ℕ → List Row → ℕ → ℕ → ℕ
letter_at tasks scale rows p j = letter tasks (find (holds p (j * scale)) rows)

-- the chart of processor p
abbrev pub chart_line : ℕ → List ℕ → List ℕ
chart_line p letters = line_of (codes "chart") (decimal p ∷ (letters ∷ []))

-- for each task in order its response
abbrev pub response_lines : SetContents → ℕ → List Row → List (List ℕ)
response_lines s scale rows = map (λ p. named_line (codes "response") p.1.name (response s scale rows p.0)) (enumerate_from 0 s.tasks)

-- for each processor in order its chart
abbrev pub chart_lines : SetContents → ℕ → List Row → List (List ℕ)
chart_lines s scale rows = map (λ p. chart_line p (chart s scale rows p)) (range_with_len 0 s.processors)

-- all lines of the report of a valid trace
abbrev pub report_lines : SetContents → ℕ → List Row → List (List ℕ)
report_lines s scale rows = count_lines s scale rows ++ (response_lines s scale rows ++ chart_lines s scale rows)
