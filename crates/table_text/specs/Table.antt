-- The schedule of a set as a file of C99 that includes nothing but stdint.h, and that a compiler of C or C++ takes without a warning.
use Rattle.std.specs.Prelude.{ℕ, ◌*◌, ◌/◌, List, [], ◌∷◌, ◌++◌, length, codes, decimal}
use Rattle.std.specs.List.{flat_map, concat, range_with_len}
use Rattle.sched_base.specs.Bytes.{line_feed}
use Rattle.sched_base.specs.declared.rows.Row.{Row}
use Rattle.sched_base.specs.Sets.{SetContents}
use Rattle.sched_base.specs.Tables.{all_rows, lane_of}
use Rattle.table_text.specs.Steps.{step_of}
use Rattle.table_text.specs.Lines.{width_of, task_line, row_line, processor_line, field_line}

-- these lines, each with its line feed
abbrev pub lines_text : List (List ℕ) → List ℕ
lines_text lines = flat_map (λ line. line ++ line_feed ∷ []) lines

-- what the file is, and what a task is
unfoldable pub opening_text : List ℕ
opening_text =
    lines_text (codes "/* The schedule of a set of periodic tasks, written by furnacelime."
    ∷ codes "   A row {start, end, task}: the processor runs this task of the table, or"
    ∷ codes "   none where it is -1, from tick start * step up to tick end * step. The"
    ∷ codes "   first row begins at 0, each other where the one before ends, and the last"
    ∷ codes "   ends at ticks. Each array of tasks or rows has one element more, which is"
    ∷ codes "   not counted. */"
    ∷ codes "#include <stdint.h>"
    ∷ []
    ∷ codes "struct furnacelime_task {"
    ∷ codes "  const char *name;"
    ∷ codes "  uint32_t work, period, offset; /* in units */"
    ∷ codes "};"
    ∷ []
    ∷ codes "struct furnacelime_row {" ∷ [])

-- what a row, a processor and a table are, up to the tasks
unfoldable pub shapes_text : List ℕ
shapes_text =
    lines_text (codes "  int16_t task;"
    ∷ codes "};"
    ∷ []
    ∷ codes "struct furnacelime_processor {"
    ∷ codes "  uint32_t row_count;"
    ∷ codes "  const struct furnacelime_row *rows;"
    ∷ codes "};"
    ∷ []
    ∷ codes "struct furnacelime_table {"
    ∷ codes "  uint64_t scale; /* the ticks of a unit */"
    ∷ codes "  uint64_t step;  /* the ticks of a step, in which rows are told */"
    ∷ codes "  uint64_t ticks; /* the ticks up to the horizon */"
    ∷ codes "  uint64_t repeat_from; /* the tick from which the rows come again, for ever,"
    ∷ codes "                           once ticks have passed; ticks where they don't */"
    ∷ codes "  uint32_t horizon; /* in units */"
    ∷ codes "  uint32_t processor_count, task_count;"
    ∷ codes "  const struct furnacelime_processor *processors;"
    ∷ codes "  const struct furnacelime_task *tasks;"
    ∷ codes "};"
    ∷ []
    ∷ codes "static const struct furnacelime_task furnacelime_tasks[] = {" ∷ [])

-- the shapes of what the table has, whose starts and ends are of so many bits
abbrev pub head_text : ℕ → List ℕ
head_text width = opening_text ++ ((codes "  uint" ++ (decimal width ++ codes "_t start, end;\n")) ++ shapes_text)

-- the rows of processor p, and one that isn't counted
abbrev pub lane_text : ℕ → ℕ → List Row → List ℕ
lane_text step p rows =
    (codes "static const struct furnacelime_row furnacelime_rows_" ++ (decimal p ++ codes "[] = {\n"))
    ++ (flat_map (row_line step) rows ++ codes "  {0u, 0u, -1}\n};\n\n")

-- the processors, each with the number of its rows, and the begin of the table itself
abbrev pub processors_text : List (List Row) → List ℕ
processors_text lanes =
    codes "static const struct furnacelime_processor furnacelime_processors[] = {\n"
    ++ (flat_map (λ p. processor_line p (length (lane_of lanes p))) (range_with_len 0 (length lanes))
    ++ codes "};\n\nextern const struct furnacelime_table furnacelime_table;\nconst struct furnacelime_table furnacelime_table = {\n")

-- the numbers of the table, with so many ticks in a step and the tick from which its rows come again, and where its arrays are
abbrev pub fields_text : SetContents → ℕ → ℕ → ℕ → List ℕ
fields_text s scale step repeat_from =
    concat (field_line (codes "scale") scale ∷ field_line (codes "step") step ∷ field_line (codes "ticks") (s.horizon * scale)
    ∷ field_line (codes "repeat_from") repeat_from ∷ field_line (codes "horizon") s.horizon
    ∷ field_line (codes "processor_count") s.processors ∷ field_line (codes "task_count") (length s.tasks)
    ∷ codes "  furnacelime_processors,\n  furnacelime_tasks\n};\n" ∷ [])

-- the table of a set and of the rows of its processors, which are told in steps of so many ticks and come again from this tick on. One task isn't counted
unfoldable pub table_with : SetContents → ℕ → List (List Row) → ℕ → ℕ → List ℕ
table_with s scale lanes step repeat_from =
    head_text (width_of (s.horizon * scale / step))
    ++ ((flat_map task_line s.tasks ++ codes "  {\"\", 0u, 0u, 0u}\n};\n\n")
    ++ (flat_map (λ p. lane_text step p (lane_of lanes p)) (range_with_len 0 (length lanes))
    ++ (processors_text lanes ++ fields_text s scale step repeat_from)))

-- the table of a set and of the rows of its processors, which come again from this unit on
unfoldable pub table_text : SetContents → ℕ → List (List Row) → ℕ → List ℕ
table_text s scale lanes from = table_with s scale lanes (step_of (s.horizon * scale) (all_rows lanes)) (from * scale)
