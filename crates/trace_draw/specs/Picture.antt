-- The picture of a trace. Names are lawful ones, in which nothing needs escaping.
use Rattle.std.specs.Prelude.{ℕ, ◌+◌, ◌-◌, nat_le, nat_lt, ◌&&◌, if◌then◌else◌, List, [], ◌∷◌, ◌++◌, length, codes, decimal}
use Rattle.std.specs.List.{flat_map, concat, range_with_len}
use Rattle.sched_edges.specs.Lines.{word_line}
use Rattle.sched_base.specs.Sets.{SetContents}
use Rattle.trace_verdict.specs.declared.faults.Verdict.{Verdict}
use Rattle.trace_verdict.specs.declared.faults.Verdict.TheVariants.{Valid, Fault}
use Rattle.trace_verdict.specs.Faults.{first_task_line, row_at}
use Rattle.trace_check.specs.Traces.{Trace}
use Rattle.trace_draw.specs.declared.rows.Part.TheVariants.{Boxes, Words}
use Rattle.trace_draw.specs.declared.shown_units.ShownUnits.{ShownUnits}
use Rattle.trace_draw.specs.ShownUnits.{most_drawn, count_reaching, reaches, place, span}
use Rattle.trace_draw.specs.Shapes.{roomy_line}
use Rattle.trace_draw.specs.Head.{bottom, head_text, lanes_text, axis_text}
use Rattle.trace_draw.specs.Rows.{rows_text, frame_lines}
use Rattle.trace_draw.specs.Periods.{task_text}

-- the frames of row i, where there is such a row and it reaches into the window
abbrev pub framed_row : Trace → ShownUnits → ℕ → List ℕ
framed_row t w i =
    if nat_lt i (length t.rows) && reaches w (row_at t.rows i)
    then concat (frame_lines t.set (row_at t.rows i) (place w (row_at t.rows i).start) (span w (row_at t.rows i).start (row_at t.rows i).end)) else []

-- the frames of the row at fault
abbrev pub fault_text : Trace → ShownUnits → Verdict → List ℕ
fault_text t w Valid = []
fault_text t w (Fault line kind) =
    if nat_le (first_task_line + length t.set.tasks) line then framed_row t w (line - (first_task_line + length t.set.tasks)) else []

-- what the marks mean, and the end
abbrev pub closing_lines : SetContents → List (List ℕ)
closing_lines s =
    roomy_line (codes "n") 11300 250 (bottom s + 210) (codes "arrow: release, and deadline of the job before")
    ∷ roomy_line (codes "n") 11300 250 (bottom s + 470) (codes "ring: the period has its work; red: at fault") ∷ word_line (codes "</svg>") ∷ []

-- what the head says of what isn't shown: how many of the rows are drawn, where not all are, and else how the whole schedule is seen, or what comes next
unfoldable pub hint_text : Trace → ShownUnits → List ℕ
hint_text t w =
    if nat_lt most_drawn (count_reaching w t.rows) then codes "; 20000 of " ++ (decimal (count_reaching w t.rows) ++ codes " rows")
    else (if nat_le t.set.horizon w.units then []
    else (if nat_le (length t.rows) most_drawn then codes "; all: draw --units " ++ decimal t.set.horizon
    else (if nat_lt (w.from + w.units) t.set.horizon then codes "; more: draw --from " ++ decimal (w.from + w.units) else [])))

-- the picture of a trace with this verdict: the head, the empty lanes and the axis lie below the rows, and the words of rows above all else
unfoldable pub picture : Trace → ShownUnits → Verdict → List ℕ
picture t w v =
    (head_text t.set w v (hint_text t w) ++ (lanes_text t.set ++ axis_text t.set w))
    ++ (rows_text Boxes t.set w t.rows ++ (flat_map (task_text t w v) (range_with_len 0 (length t.set.tasks))
    ++ (fault_text t w v ++ (rows_text Words t.set w t.rows ++ concat (closing_lines t.set)))))
