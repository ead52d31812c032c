-- Parts of definitions that the lemmas name.
use Rattle.std.specs.Prelude.{ℕ, ◌+◌, ◌-◌, ◌*◌, ◌/◌, List, [], ◌∷◌, ◌++◌, filter, take, length, codes, decimal}
use Rattle.std.specs.List.{flat_map, concat, range_with_len}
use Rattle.sched_base.specs.declared.rows.Row.{Row}
use Rattle.sched_base.specs.Sets.{SetContents, task_at}
use Rattle.trace_verdict.specs.declared.faults.Verdict.{Verdict}
use Rattle.trace_check.specs.Traces.{Trace}
use Rattle.trace_draw.specs.declared.rows.Part.{Part}
use Rattle.trace_draw.specs.declared.rows.Part.TheVariants.{Words}
use Rattle.trace_draw.specs.declared.shown_units.ShownUnits.{ShownUnits}
use Rattle.trace_draw.specs.ShownUnits.{most_drawn, reaches, plot_left, plot_width}
use Rattle.trace_draw.specs.Shapes.{box_line, roomy_line, lane_top}
use Rattle.trace_draw.specs.Head.{first_mark, mark_text, head_text, lanes_text, axis_text}
use Rattle.trace_draw.specs.Rows.{text_of_leaf, task_row_text, rows_text}
use Rattle.trace_draw.specs.Periods.{first_shown, count_shown, period_text, task_text}
use Rattle.trace_draw.specs.Picture.{hint_text, fault_text, closing_lines}

-- the rows that are drawn, in the order of their lines: the first ones that reach into the window
abbrev pub drawn_rows : ShownUnits → List Row → List Row
drawn_rows w rows = take most_drawn (filter (reaches w) rows)

-- this part of what is drawn of a row
abbrev pub row_text : Part → SetContents → ShownUnits → Row → List ℕ
row_text part s w r = text_of_leaf (λ j. task_row_text part s w j r) r.leaf

-- the lane of processor p, with nothing on it
abbrev pub lane_lines : ℕ → List (List ℕ)
lane_lines p =
    roomy_line (codes "l") 1760 1780 (lane_top p + 215) (codes "cpu " ++ decimal p) ∷ box_line (codes " class='p'") plot_left (lane_top p) plot_width 340 ∷ []

-- how many marks the axis has
abbrev pub mark_count : ShownUnits → ℕ → ℕ
mark_count w step = (w.from + w.units) / step + 1 - first_mark w step

-- the i-th mark of the axis
abbrev pub mark_of : SetContents → ShownUnits → ℕ → ℕ → List ℕ
mark_of s w step i = mark_text s w ((first_mark w step + i) * step)

-- the marks of the periods of task j that are shown
abbrev pub marks_text : Trace → ShownUnits → ℕ → List ℕ
marks_text t w j =
    flat_map (λ i. period_text t w j (first_shown w (task_at t.set.tasks j) + i)) (range_with_len 0 (count_shown w (task_at t.set.tasks j)))

-- the lanes of all tasks
abbrev pub tasks_text : Trace → ShownUnits → Verdict → List ℕ
tasks_text t w v = flat_map (task_text t w v) (range_with_len 0 (length t.set.tasks))

-- what lies below the rows
abbrev pub base_text : Trace → ShownUnits → Verdict → List ℕ
base_text t w v = head_text t.set w v (hint_text t w) ++ (lanes_text t.set ++ axis_text t.set w)

-- what comes last
abbrev pub end_text : Trace → ShownUnits → Verdict → List ℕ
end_text t w v = fault_text t w v ++ (rows_text Words t.set w t.rows ++ concat (closing_lines t.set))
