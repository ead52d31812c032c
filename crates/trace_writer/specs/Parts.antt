-- The parts of a trace text that both versions have up to the totals.
use Rattle.std.specs.Prelude.{ℕ, ◌≡◌, List, ◌++◌, codes, map, length, slice_index}
use Rattle.std.specs.List.{enumerate_from, flat_map}
use Rattle.sched_base.specs.declared.rows.Row.{Row}
use Rattle.sched_base.specs.declared.sets.Task.{Task}
use Rattle.sched_base.specs.Sets.{SetContents}
use Rattle.sched_edges.specs.Lines.{named_line}
use Rattle.trace_format.specs.declared.versions.Version.{Version}
use Rattle.trace_format.specs.Lines.{task_line, row_line, met_line}
use Rattle.trace_format.specs.Text.{head_lines, total_lines}

-- these lines, one after the other
abbrev pub text_of : List (List ℕ) → List ℕ
text_of lines = flat_map (λ line. line) lines

-- the text from the first line up to the last total
abbrev pub body_text : Version → SetContents → ℕ → List Row → List ℕ
body_text version s scale rows =
    text_of (head_lines version s scale) ++ (flat_map (task_line version) s.tasks ++ (flat_map (row_line s.tasks) rows ++ text_of (total_lines s rows)))

-- the lines of these totals, one for each task in order
abbrev pub lines_of_totals : List Task → List ℕ → List (List ℕ)
lines_of_totals tasks totals = map (λ p. named_line (codes "total") p.1.name (slice_index totals p.0)) (enumerate_from 0 tasks)

-- the line of a numbered period of the task of this name, which was done at this tick
abbrev pub line_of_met : List ℕ → ℕ × ℕ → List ℕ
line_of_met name p = met_line name p.0 p.1

-- of these rows the first ones, so many, have their lines on the page, and those behind are left
pub record IsPage (tasks : List Task) (rows left : List Row) (lines : ℕ) (page : List ℕ) : Type 0 where
  pub parts : (shown : List Row) × (rows ≡ shown ++ left) × (page ≡ flat_map (row_line tasks) shown) × (lines ≡ length shown)
