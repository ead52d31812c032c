-- The shapes of a picture, each a line of text. Lengths are tenths of a pixel.
use Rattle.std.specs.Prelude.{ℕ, ◌+◌, ◌*◌, ◌/◌, ◌%◌, nat_le, nat_lt, if◌then◌else◌, List, [], ◌∷◌, ◌++◌, length, codes, decimal}
use Rattle.sched_base.specs.Bytes.{line_feed, space}

-- a filled box, with this attribute if any
unfoldable pub box_line : List ℕ → ℕ → ℕ → ℕ → ℕ → List ℕ
box_line look x y width height =
    codes "<rect" ++ (look ++ (codes " x='" ++ (decimal x ++ (codes "' y='" ++ (decimal y
    ++ (codes "' width='" ++ (decimal width ++ (codes "' height='" ++ (decimal height ++ (codes "'/>" ++ line_feed ∷ []))))))))))

-- a text
unfoldable pub label_line : List ℕ → ℕ → ℕ → List ℕ → List ℕ
label_line look x y text =
    codes "<text class='" ++ (look ++ (codes "' x='" ++ (decimal x ++ (codes "' y='" ++ (decimal y
    ++ (codes "'>" ++ (text ++ (codes "</text>" ++ line_feed ∷ []))))))))

-- how large so many letters with this room may be on a narrow page: large, middle, or as everywhere
abbrev pub grown : ℕ → ℕ → List ℕ
grown letters room =
    if nat_le (140 * letters + 60) room then codes " x" else (if nat_le (100 * letters + 60) room then codes " y" else [])

-- a text with this room, whose letters are larger on a narrow page
abbrev pub roomy_line : List ℕ → ℕ → ℕ → ℕ → List ℕ → List ℕ
roomy_line look room x y text = label_line (look ++ grown (length text) room) x y text

-- a shape that is told by two numbers, with what stands before, between and behind them
unfoldable pub shape_line : List ℕ → ℕ → List ℕ → ℕ → List ℕ → List ℕ
shape_line before x between y behind = before ++ (decimal x ++ (between ++ (decimal y ++ (behind ++ line_feed ∷ []))))

-- the look of a box of task j that is so wide: one of eight colours, and its border
abbrev pub task_look : ℕ → ℕ → List ℕ
task_look j width = 99 ∷ (48 + j % 8) ∷ space ∷ 118 ∷ (48 + (if nat_lt width 60 then 0 else j / 8 % 4)) ∷ []

-- how far from the top the lane of processor p begins
abbrev pub lane_top : ℕ → ℕ
lane_top p = 1000 + 420 * p

-- how far from the top the lane of task j begins, below those of so many processors
abbrev pub task_top : ℕ → ℕ → ℕ
task_top processors j = 1230 + 420 * processors + 400 * j
