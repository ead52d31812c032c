-- The head of a picture: what a screen reader reads, the style, the words above the plot, the lanes of the processors and the axis.
use Rattle.std.specs.Prelude.{ℕ, ◌+◌, ◌-◌, ◌*◌, ◌/◌, ◌==◌, nat_le, if◌then◌else◌}
use Rattle.std.specs.Prelude.{List, [], ◌∷◌, ◌++◌, length, codes, decimal}
use Rattle.std.specs.List.{flat_map, concat, range_with_len}
use Rattle.sched_base.specs.Bytes.{line_feed}
use Rattle.sched_base.specs.Sets.{SetContents}
use Rattle.sched_edges.specs.Lines.{word_line}
use Rattle.trace_verdict.specs.declared.faults.FaultKind.{FaultKind}
use Rattle.trace_verdict.specs.declared.faults.FaultKind.TheVariants.{Processor, End, ProcessorOverlap, TaskOverlap, Early, Supply}
use Rattle.trace_verdict.specs.declared.faults.Verdict.{Verdict}
use Rattle.trace_verdict.specs.declared.faults.Verdict.TheVariants.{Valid, Fault}
use Rattle.trace_draw.specs.declared.shown_units.ShownUnits.{ShownUnits}
use Rattle.trace_draw.specs.ShownUnits.{plot_left, plot_width, place}
use Rattle.trace_draw.specs.Shapes.{box_line, label_line, grown, roomy_line, shape_line, lane_top, task_top}

-- how far from the top the plot ends
abbrev pub bottom : SetContents → ℕ
bottom s = task_top s.processors (length s.tasks)

-- what follows the name of a thing, where there are so many
abbrev pub plural : ℕ → List ℕ
plural n = if n == 1 then [] else codes "s"

-- how many tasks and processors there are
unfoldable pub size_text : SetContents → List ℕ
size_text s =
    decimal (length s.tasks) ++ (codes " task" ++ (plural (length s.tasks)
    ++ (codes " on " ++ (decimal s.processors ++ (codes " processor" ++ plural s.processors)))))

-- which units of the schedule are shown
unfoldable pub units_text : SetContents → ShownUnits → List ℕ
units_text s w = codes "units " ++ (decimal w.from ++ (codes " to " ++ (decimal (w.from + w.units) ++ (codes " of " ++ decimal s.horizon))))

-- how long a unit is
unfoldable pub scale_text : ℕ → List ℕ
scale_text scale = codes "one unit is " ++ (decimal scale ++ (codes " tick" ++ plural scale))

-- the kind of a fault, as it is printed
abbrev pub kind_text : FaultKind → List ℕ
kind_text Processor = codes "processor"
kind_text End = codes "end"
kind_text ProcessorOverlap = codes "processor-overlap"
kind_text TaskOverlap = codes "task-overlap"
kind_text Early = codes "early"
kind_text Supply = codes "supply"

-- whether the trace is valid, and else where it is at fault
abbrev pub verdict_text : Verdict → List ℕ
verdict_text Valid = codes "valid"
verdict_text (Fault line kind) = codes "line " ++ (decimal line ++ (codes ": " ++ kind_text kind))

-- the look of that text
abbrev pub verdict_look : Verdict → List ℕ
verdict_look Valid = codes "ok"
verdict_look (Fault line kind) = codes "bad"

-- how the shapes look: the colours are told apart by colour-blind people, and each text by its contrast; on a narrow page the words above the plot
-- are larger, and others where they have room
abbrev pub style_lines : List (List ℕ)
style_lines =
    word_line (codes "<style>text{font:125px ui-monospace,DejaVu Sans Mono,monospace}.h{font-size:180px;font-weight:bold}")
    ∷ word_line (codes ".n,.a,.u,.s{fill:#444}.l,.s,.e,.u,.ok,.bad{text-anchor:end}.m,.a{text-anchor:middle}.l,.e{font-size:115px}")
    ∷ word_line (codes ".ok,.bad{font-size:160px;fill:#00603f}.e{font-weight:bold}.e,.bad{fill:#b00000}.q,.s{font-size:85px}.j{font-size:45px}")
    ∷ word_line (codes ".s.x,.s.y{font-size:110px}.p{fill:#f2f2f2}.g,.b,.r,.f,.o{fill:none;stroke:#bbb;stroke-width:6}.b{stroke:#999}")
    ∷ word_line (codes ".r,.o{stroke:#000;stroke-width:14}.o{fill:#fff}.f{stroke:#b00000;stroke-width:24}.w{fill:#b00000}")
    ∷ word_line (codes ".c0{color:#0072b2}.c1{color:#e69f00}.c2{color:#009e73}.c3{color:#cc79a7}")
    ∷ word_line (codes ".c4{color:#56b4e9}.c5{color:#d55e00}.c6{color:#f0e442}.c7{color:#595959}")
    ∷ word_line (codes ".m{dominant-baseline:central;stroke:currentColor;stroke-width:.2em;paint-order:stroke}.m.c0,.m.c7{fill:#fff}")
    ∷ word_line (codes ".v0,.v1,.v2,.v3{fill:currentColor}.v1,.v2,.v3{stroke:#000;stroke-width:12}")
    ∷ word_line (codes ".v2{stroke-dasharray:40}.v3{stroke-dasharray:160 60}")
    ∷ word_line (codes "@media(max-width:900px){.h{font-size:300px}.ok,.bad{font-size:260px}.l,.e{transform:translateY(-30px)}")
    ∷ word_line (codes ".s{transform:translateY(15px)}.x{font-size:230px}.y,.s.y{font-size:160px}.s.x{font-size:220px}}</style>") ∷ []

-- what comes before the lanes: the picture's size, its title, and a description
abbrev pub opening_lines : SetContents → ShownUnits → Verdict → List (List ℕ)
opening_lines s w v =
    word_line (codes "<svg xmlns='http://www.w3.org/2000/svg' role='img' aria-labelledby='t d'")
    ∷ shape_line (codes " viewBox='0 0 ") 12_000 (codes " ") (bottom s + 600) (codes "'>")
    ∷ (codes "<title id='t'>Schedule of " ++ (size_text s ++ (codes "</title>" ++ line_feed ∷ [])))
    ∷ word_line (codes "<desc id='d'>A lane for each processor, and below them one for each task;")
    ∷ (units_text s w ++ (codes "; " ++ (verdict_text v ++ (codes "</desc>" ++ line_feed ∷ [])))) ∷ []

-- how large the second line of words may be on a narrow page: what is shown, with this behind it, and the scale share its room
abbrev pub second_size : SetContents → ShownUnits → List ℕ → List ℕ
second_size s w hint = grown (length (units_text s w) + length hint + length (scale_text w.scale)) 11300

-- the paper, and the words above the plot, with what is said of what isn't shown
abbrev pub caption_lines : SetContents → ShownUnits → Verdict → List ℕ → List (List ℕ)
caption_lines s w v hint =
    shape_line (codes "<rect width='") 12_000 (codes "' height='") (bottom s + 600) (codes "' fill='#fff'/>")
    ∷ label_line (codes "h") 250 330 (size_text s)
    ∷ label_line (codes "n" ++ second_size s w hint) 250 560 (units_text s w ++ hint)
    ∷ label_line (codes "u" ++ second_size s w hint) 11600 560 (scale_text w.scale) ∷ label_line (verdict_look v) 11600 330 (verdict_text v) ∷ []

-- the whole head
abbrev pub head_text : SetContents → ShownUnits → Verdict → List ℕ → List ℕ
head_text s w v hint = concat (opening_lines s w v) ++ (concat style_lines ++ concat (caption_lines s w v hint))

-- the lanes of all processors, with nothing on them
abbrev pub lanes_text : SetContents → List ℕ
lanes_text s =
    flat_map (λ p. concat (roomy_line (codes "l") 1760 1780 (lane_top p + 215) (codes "cpu " ++ decimal p)
    ∷ box_line (codes " class='p'") plot_left (lane_top p) plot_width 340 ∷ [])) (range_with_len 0 s.processors)

-- the first of these tens, twice it or five times it of which twelve cover so many units
abbrev pub step_among : List ℕ → ℕ → ℕ
step_among [] units = 1
step_among (ten ∷ tens) units =
    if nat_le units (12 * ten) then ten
    else (if nat_le units (24 * ten) then 2 * ten else (if nat_le units (60 * ten) then 5 * ten else step_among tens units))

-- the units from one number on the axis to the next: 1, 2, 5, 10, 20, 50 and so on, so that there are at most thirteen numbers
unfoldable pub axis_step : ℕ → ℕ
axis_step units = step_among (1 ∷ 10 ∷ 100 ∷ 1000 ∷ 10_000 ∷ 100_000 ∷ 1_000_000 ∷ 10_000_000 ∷ 100_000_000 ∷ 1_000_000_000 ∷ []) units

-- the number of the first mark of the axis, where the mark of number i is that of unit i * step
abbrev pub first_mark : ShownUnits → ℕ → ℕ
first_mark w step = (w.from + step - 1) / step

-- the mark of a unit: an upright line from the axis down, and its number
abbrev pub mark_text : SetContents → ShownUnits → ℕ → List ℕ
mark_text s w unit =
    concat (shape_line (codes "<path class='g' d='M") (place w (unit * w.scale)) (codes " 880V") (bottom s) (codes "'/>")
    ∷ roomy_line (codes "a") 760 (place w (unit * w.scale)) 840 (decimal unit) ∷ [])

-- the axis, with the marks of these units
abbrev pub axis_text : SetContents → ShownUnits → List ℕ
axis_text s w =
    flat_map (λ i. mark_text s w ((first_mark w (axis_step w.units) + i) * axis_step w.units))
    (range_with_len 0 ((w.from + w.units) / axis_step w.units + 1 - first_mark w (axis_step w.units)))
