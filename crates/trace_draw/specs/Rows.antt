-- The rows of a picture: each is a box in the lane of its processor and one in the lane of its task, with words where they have room. The words of
-- all rows lie above all boxes. Of very many rows in one place the first ones are drawn.
use Rattle.std.specs.Prelude.{ℕ, ◌+◌, ◌*◌, ◌/◌, nat_le, nat_lt, if◌then◌else◌, List, [], ◌∷◌, ◌++◌, length, take, filter, codes, decimal, ◌%◌}
use Rattle.std.specs.List.{flat_map, concat}
use Rattle.sched_base.specs.declared.rows.Leaf.{Leaf}
use Rattle.sched_base.specs.declared.rows.Leaf.TheVariants as leaves
use Rattle.sched_base.specs.declared.rows.Row.{Row}
use Rattle.sched_base.specs.Sets.{SetContents, task_at}
use Rattle.sched_edges.specs.Lines.{word_line}
use Rattle.trace_draw.specs.declared.rows.Part.{Part}
use Rattle.trace_draw.specs.declared.rows.Part.TheVariants.{Boxes, Words}
use Rattle.trace_draw.specs.declared.shown_units.ShownUnits.{ShownUnits}
use Rattle.trace_draw.specs.ShownUnits.{reaches, place, span, most_drawn}
use Rattle.trace_draw.specs.Shapes.{box_line, roomy_line, task_look, lane_top, task_top}
use Rattle.sched_base.specs.Bytes.{line_feed, space}

-- a text in a box of task j, x from the left and so wide, where it has room
abbrev pub words_line : ℕ → ℕ → ℕ → ℕ → List ℕ → List ℕ
words_line j x width y text =
    if nat_le (76 * length text + 60) width then roomy_line (109 ∷ space ∷ 99 ∷ (48 + j % 8) ∷ []) width (x + width / 2) y text else []

-- the boxes of a row of task j, x from the left and so wide, in a group with the task's name, which is shown where the mouse rests on them. A processor
-- that the set hasn't has no lane.
abbrev pub boxes_lines : SetContents → ℕ → Row → ℕ → ℕ → List (List ℕ)
boxes_lines s j r x width =
    (codes "<g class='" ++ (task_look j width ++ (codes "'><title>" ++ ((task_at s.tasks j).name ++ (codes "</title>" ++ line_feed ∷ [])))))
    ∷ (if nat_lt r.processor s.processors then box_line [] x (lane_top r.processor) width 340 else [])
    ∷ box_line [] x (task_top s.processors j + 70) width 230 ∷ word_line (codes "</g>") ∷ []

-- the words on them: the name of the task, and the number of the processor
abbrev pub words_lines : SetContents → ℕ → Row → ℕ → ℕ → List (List ℕ)
words_lines s j r x width =
    (if nat_lt r.processor s.processors then words_line j x width (lane_top r.processor + 170) (task_at s.tasks j).name else [])
    ∷ words_line j x width (task_top s.processors j + 185) (decimal r.processor) ∷ []

-- this part of what is drawn of a row of task j
abbrev pub task_row_text : Part → SetContents → ShownUnits → ℕ → Row → List ℕ
task_row_text Boxes s w j r = concat (boxes_lines s j r (place w r.start) (span w r.start r.end))
task_row_text Words s w j r = concat (words_lines s j r (place w r.start) (span w r.start r.end))

-- what is drawn of the task that a leaf runs: idle time is left blank
abbrev pub text_of_leaf : (ℕ → List ℕ) → Leaf → List ℕ
text_of_leaf text (leaves.Task id) = text id.0
text_of_leaf text (leaves.Wait id) = []
text_of_leaf text (leaves.Idle number) = []
text_of_leaf text leaves.Empty = []

-- this part of what is drawn of all rows
abbrev pub rows_text : Part → SetContents → ShownUnits → List Row → List ℕ
rows_text part s w rows =
    flat_map (λ (r : Row). text_of_leaf (λ j. task_row_text part s w j r) r.leaf) (take most_drawn (filter (reaches w) rows))

-- the red frames of a row, in the lane of its processor and in that of its task
abbrev pub frame_lines : SetContents → Row → ℕ → ℕ → List (List ℕ)
frame_lines s r x width =
    (if nat_lt r.processor s.processors then box_line (codes " class='f'") x (lane_top r.processor) width 340 else [])
    ∷ text_of_leaf (λ j. box_line (codes " class='f'") x (task_top s.processors j + 70) width 230) r.leaf ∷ []
