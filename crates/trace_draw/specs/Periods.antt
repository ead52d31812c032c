-- The lanes of the tasks: names, releases, and how each period was served.
use Rattle.std.specs.Prelude.{ℕ, ◌+◌, ◌-◌, ◌*◌, ◌/◌, ◌==◌, nat_le, nat_lt, not, Bool, ◌&&◌, if◌then◌else◌}
use Rattle.std.specs.Prelude.{List, [], ◌∷◌, ◌++◌, length, codes, decimal}
use Rattle.std.specs.List.{flat_map, concat, range_with_len}
use Rattle.sched_base.specs.declared.sets.Task.{Task}
use Rattle.sched_base.specs.Sets.{task_at}
use Rattle.sched_base.specs.Valid.{period_start, served}
use Rattle.trace_verdict.specs.Faults.{first_task_line}
use Rattle.trace_format.specs.Finishes.{finish}
use Rattle.trace_verdict.specs.declared.faults.Verdict.{Verdict}
use Rattle.trace_verdict.specs.declared.faults.Verdict.TheVariants.{Valid, Fault}
use Rattle.trace_check.specs.Traces.{Trace}
use Rattle.trace_draw.specs.declared.shown_units.ShownUnits.{ShownUnits}
use Rattle.trace_draw.specs.ShownUnits.{plot_width, first_tick, end_tick, place}
use Rattle.trace_draw.specs.Shapes.{box_line, roomy_line, shape_line, task_top}

-- how many periods of the task begin before this unit
abbrev pub begun_before : Task → ℕ → ℕ
begun_before t unit = (unit - t.offset + t.period - 1) / t.period

-- the first period that is shown: the one in which the window begins
abbrev pub first_shown : ShownUnits → Task → ℕ
first_shown w t = begun_before t (w.from + 1) - 1

-- how many are shown: those that begin by the end of the window, and none where they are too narrow
abbrev pub count_shown : ShownUnits → Task → ℕ
count_shown w t = if nat_le (150 * w.units) (t.period * plot_width) then begun_before t (w.from + w.units + 1) - first_shown w t else 0

-- whether the period that ends at tick `end` was given other than its due, or, past the horizon, more
abbrev pub is_wrong : ℕ → ℕ → ℕ → ℕ → Bool
is_wrong horizon end due given = if nat_le end horizon then not (given == due) else nat_lt due given

-- what is drawn of a period from tick a to tick b above y: an arrow at its begin, and a red bar where it was served wrongly, or else
-- a ring where its work was done
abbrev pub period_lines : ShownUnits → ℕ → ℕ → ℕ → ℕ → ℕ → ℕ → ℕ → List (List ℕ)
period_lines w horizon y a b due given done =
    (if nat_le (first_tick w) a then shape_line (codes "<path class='r' d='M") (place w a) (codes " ") y (codes "v-290m-45 70l45-70l45 70'/>") else [])
    ∷ (if is_wrong horizon b due given then box_line (codes " class='w'") (place w a) (y - 20) (place w b - place w a) 40
    else if nat_le b horizon && (nat_lt (first_tick w) done && nat_le done (end_tick w))
    then shape_line (codes "<circle class='o' cx='") (place w done) (codes "' cy='") y (codes "' r='40'/>") else []) ∷ []

-- what is drawn of period k of task j
abbrev pub period_text : Trace → ShownUnits → ℕ → ℕ → List ℕ
period_text t w j k =
    concat (period_lines w (t.set.horizon * t.scale) (task_top t.set.processors j + 300)
    (period_start t.scale (task_at t.set.tasks j) k) (period_start t.scale (task_at t.set.tasks j) (k + 1))
    ((task_at t.set.tasks j).work * t.scale) (served t.scale t.set t.rows j k) (finish t.scale t.set t.rows j k))

-- the work, the period and the offset of a task
unfoldable pub numbers_text : Task → List ℕ
numbers_text t = decimal t.work ++ (47 ∷ (decimal t.period ++ (if t.offset == 0 then [] else codes " @" ++ decimal t.offset)))

-- whether the trace is at fault at the line of the total of task j
abbrev pub is_at_fault : Trace → Verdict → ℕ → Bool
is_at_fault t Valid j = Bool.false
is_at_fault t (Fault line kind) j = line == first_task_line + length t.set.tasks + length t.rows + j

-- the look of a task's name: bold and red where its total is at fault, small where it is long
abbrev pub title_look : Bool → ℕ → List ℕ
title_look fault letters =
    (if fault then codes "e" else codes "l") ++ (if nat_le letters 24 then [] else (if nat_le letters 34 then codes " q" else codes " j"))

-- the words of the lane of task j, and the line under it
abbrev pub title_lines : Trace → Verdict → ℕ → ℕ → List (List ℕ)
title_lines t v j top =
    roomy_line (title_look (is_at_fault t v j) (length (task_at t.set.tasks j).name)) 1760 1780 (top + 170) (task_at t.set.tasks j).name
    ∷ roomy_line (codes "s") 1960 1780 (top + 350) (numbers_text (task_at t.set.tasks j))
    ∷ shape_line (codes "<path class='b' d='M") 1900 (codes " ") (top + 300) (codes "H11600'/>") ∷ []

-- the lane of task j, with the marks of its periods that are shown
abbrev pub task_text : Trace → ShownUnits → Verdict → ℕ → List ℕ
task_text t w v j =
    concat (title_lines t v j (task_top t.set.processors j))
    ++ flat_map (λ i. period_text t w j (first_shown w (task_at t.set.tasks j) + i)) (range_with_len 0 (count_shown w (task_at t.set.tasks j)))
