-- What each command that executes nothing writes, and which bytes it refuses and why. A new such command adds its case to these definitions.
use Rattle.std.specs.Prelude.{◌≡◌, ℕ, true, false, List, Ok, codes}
use Rattle.std.specs.List.{AllZip}
use Rattle.sched_base.specs.Scale.{Fits}
use Rattle.sched_base.specs.Sets.{SetContents}
use Rattle.task_reader.specs.Pieces.{pieces_of}
use Rattle.batch_compile.specs.declared.answers.Answer.{Answer}
use Rattle.batch_compile.specs.Answers.{IsAnswer}
use Rattle.command_words.specs.declared.asking.Asked.{Asked}
use Rattle.command_words.specs.declared.command.Reading.{Reading}
use Rattle.command_words.specs.declared.command.Reading.TheVariants.{Rate, Tree, Trace, TraceMet, TraceWrap, TraceRepeat}
use Rattle.command_words.specs.declared.command.Reading.TheVariants.{Table, TableRepeat, Check, Follow, Draw}
use Rattle.trace_check.specs.Traces.{Trace as TraceRead}
use Rattle.trace_check.specs.Reading.{reading}
use Rattle.trace_draw.specs.Drawing.{IsDrawing}
use Rattle.tree_check.specs.Written.{Written}
use Rattle.tree_reader.specs.Reading.{reading as reading_tree}
use Rattle.pure_commands.specs.declared.refusal.Refusal.{Refusal}
use Rattle.pure_commands.specs.Batch.{answer_line}
use Rattle.pure_commands.specs.Numbered.{several}
use Rattle.pure_commands.specs.Checks.{TellsTrace, Judges, RefusesTrace}
use Rattle.pure_commands.specs.Follow.{TellsPlan, RefusesFollow}
use Rattle.exit_status.specs.declared.Status.{Status}
use Rattle.exit_status.specs.declared.Status.TheVariants.{Done}
pub use Rattle.pure_commands.specs.SetTexts.{SetText, rates, server_tree, schedule_rows, wrapped_rows, c_table, repeating}
pub use Rattle.pure_commands.specs.SetTexts.{ReadsSet, plan_of, some_late, version_of}
pub use Rattle.pure_commands.specs.SetTexts.{schedule_text, plan_table, text_of, rows_of}
pub use Rattle.pure_commands.specs.SetTexts.{HasRoom, IsSound, RefusesText}
pub use Rattle.sched_base.specs.Limits.{set_limit}

-- the most bytes of a trace text; those of a task set, a tree text or a job text are `set_limit`
abbrev pub trace_limit : ℕ
trace_limit = 536870912

-- what such a command tells: a text of the set that it reads, the judgment of the trace that it reads, the picture of the trace that it
-- reads, the schedule of the tree that it reads, or the answers of the sets that it reads
pub data Output : Type 0 where
  of_set : SetText → Output
  of_trace : Output
  of_picture : Asked → Output
  of_tree : Output
  of_batch : Output

-- what each command that reads tells
abbrev pub output_of : Reading → Output
output_of Rate = of_set rates
output_of Tree = of_set server_tree
output_of Trace = of_set (schedule_rows false)
output_of TraceMet = of_set (schedule_rows true)
output_of TraceWrap = of_set wrapped_rows
output_of TraceRepeat = of_set (repeating (schedule_rows false))
output_of Table = of_set c_table
output_of TableRepeat = of_set (repeating c_table)
output_of Check = of_trace
output_of Follow = of_tree
output_of (Draw asked) = of_picture asked

-- the most bytes that are read
abbrev pub limit_of : Output → ℕ
limit_of (of_set what) = set_limit
limit_of of_trace = trace_limit
limit_of (of_picture asked) = trace_limit
limit_of of_tree = set_limit
limit_of of_batch = set_limit

-- this text is written for these bytes, and the command ends with this status: of a set that fits its text, of a trace what is told of
-- it, or its picture, valid or not, of a tree text its schedule, and of many sets the answer of each, in order
abbrev pub Writes : Output → List ℕ → Status → List ℕ → Type 0
Writes (of_set what) bytes status text =
    (status ≡ Done) × ((s : SetContents) × (scale : ℕ) × ReadsSet bytes s scale × Fits scale s × HasRoom what s scale × (text ≡ text_of what s scale))
Writes of_trace bytes status text = (t : TraceRead) × (reading bytes ≡ Ok t) × TellsTrace t status text
Writes (of_picture asked) bytes status text = (status ≡ Done) × ((t : TraceRead) × (reading bytes ≡ Ok t) × IsDrawing t asked text)
Writes of_tree bytes status text = (status ≡ Done) × ((w : Written) × (reading_tree bytes ≡ Ok w) × TellsPlan w text)
Writes of_batch bytes status text =
    (status ≡ Done) × ((answers : List Answer) × AllZip IsAnswer (pieces_of bytes) answers
    × (text ≡ several (codes "run-batch") (codes "sets") answer_line answers))

-- the bytes call for this status of a command that tells of them: that of `check` goes by whether the rows are a valid schedule,
-- that of `draw` is `Done` for each trace, that of `batch` is `Done` for all bytes
abbrev pub CallsFor : Output → List ℕ → Status → Type 0
CallsFor of_trace bytes status = Judges bytes status
CallsFor (of_picture asked) bytes status = (status ≡ Done) × ((t : TraceRead) × (reading bytes ≡ Ok t))
CallsFor of_batch bytes status = status ≡ Done
CallsFor output bytes status = (text : List ℕ) × Writes output bytes status text

-- these bytes are refused for this reason
abbrev pub Refuses : Output → List ℕ → Refusal → Type 0
Refuses (of_set what) bytes refusal = RefusesText what bytes refusal
Refuses of_trace bytes refusal = RefusesTrace bytes refusal
Refuses (of_picture asked) bytes refusal = RefusesTrace bytes refusal
Refuses of_tree bytes refusal = RefusesFollow bytes refusal
Refuses of_batch bytes refusal = ⊥
