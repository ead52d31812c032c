-- The answer of one piece of a text.
use Rattle.std.specs.Prelude.{◌≡◌, ℕ, ◌^◌, List, Result, Ok, Err}
use Rattle.sched_base.specs.Sets.{SetContents}
use Rattle.sched_base.specs.Scale.{PassesAt, Fits}
use Rattle.task_reader.specs.declared.refusals.ReadSet.{ReadSet}
use Rattle.task_reader.specs.Reading.{set_read_from}
use Rattle.run_tree.specs.Compiled.{tree_of}
use Rattle.run_compile.specs.Answers.{HasScale, IsOverload}
use Rattle.batch_compile.specs.declared.answers.Answer.{Answer}
use Rattle.batch_compile.specs.declared.answers.Answer.TheVariants as answer

-- the set has this answer
abbrev pub IsAnswerOfSet : SetContents → Answer → Type 0
IsAnswerOfSet s (answer.Refused refusal) = ⊥
IsAnswerOfSet s (answer.ScaleTooLarge at) = PassesAt (2 ^ 94) s.tasks at
IsAnswerOfSet s (answer.Overload total room) = IsOverload s total room
IsAnswerOfSet s (answer.Fits scale levels) = HasScale s scale × Fits scale s × (levels ≡ (tree_of scale s).levels)

-- what is read has this answer: a refusal is told as it is
abbrev pub IsAnswerOfReading : Result SetContents ReadSet → Answer → Type 0
IsAnswerOfReading (Err refusal) a = a ≡ answer.Refused refusal
IsAnswerOfReading (Ok s) a = IsAnswerOfSet s a

-- the piece has this answer
abbrev pub IsAnswer : List ℕ → Answer → Type 0
IsAnswer bytes a = IsAnswerOfReading (set_read_from bytes) a
