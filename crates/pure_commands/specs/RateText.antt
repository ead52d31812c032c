-- The text of the command `rate`.
use Rattle.std.specs.Prelude.{ℕ, List, ◌++◌, length, codes}
use Rattle.std.specs.List.{flat_map}
use Rattle.sched_base.specs.Sets.{SetContents}
use Rattle.sched_base.specs.Scale.{rate_of, total_of, room_of}
use Rattle.sched_edges.specs.Lines.{word_line, number_line, named_line}

-- the text of a set of this scale: between its head and the verdict each task's name and rate
abbrev pub rate_text : ℕ → SetContents → List ℕ
rate_text scale s =
    (number_line (codes "processors") s.processors
    ++ (number_line (codes "horizon") s.horizon
    ++ (number_line (codes "tasks") (length s.tasks)
    ++ number_line (codes "scale") scale)))
    ++ (flat_map (λ t. named_line (codes "rate") t.name (rate_of scale t)) s.tasks
    ++ (number_line (codes "total") (total_of scale s.tasks)
    ++ (number_line (codes "room") (room_of scale s)
    ++ word_line (codes "verdict fits"))))
