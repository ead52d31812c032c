-- What `batch` tells of many sets.
use Rattle.std.specs.Prelude.{ℕ, List, [], ◌∷◌, ◌++◌, codes, decimal}
use Rattle.sched_edges.specs.Lines.{line_of}
use Rattle.batch_compile.specs.declared.answers.Answer.{Answer}
use Rattle.batch_compile.specs.declared.answers.Answer.TheVariants as answer
use Rattle.pure_commands.specs.declared.refusal.Refusal.TheVariants as why
use Rattle.pure_commands.specs.Refusals.{refusal_line, set_start}

-- what is told of one set: that it fits, with its scale and the number of levels of its tree, or the line of its refusal
unfoldable pub answer_text : Answer → List ℕ
answer_text (answer.Refused refusal) = refusal_line (why.BadSet refusal)
answer_text (answer.ScaleTooLarge at) = refusal_line (why.ScaleTooLarge at)
answer_text (answer.Overload total room) = refusal_line (why.Overload total room)
answer_text (answer.Fits scale levels) = line_of (codes "fits") (codes "scale" ∷ decimal scale ∷ codes "levels" ∷ decimal levels ∷ [])

-- the line of set j
abbrev pub answer_line : ℕ → Answer → List ℕ
answer_line j a = set_start j ++ answer_text a
