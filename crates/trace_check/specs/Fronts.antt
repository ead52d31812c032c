-- The lines before the row lines, at the front of a text of which more may follow.
use Rattle.std.specs.Prelude.{ℕ, ◌≡◌, ◌≤◌, true, List, ◌++◌, length, take}
use Rattle.text_words.specs.Words.{lines_of}
use Rattle.trace_check.specs.declared.front.Front.{Front}
use Rattle.trace_check.specs.TaskLines.{is_scale}
use Rattle.trace_check.specs.Reading.{set_of, body, reading}

-- the first bytes of the text are the lines before the row lines, whatever follows them
pub record IsTextFront (text : List ℕ) (f : Front) : Type 0 where
  pub within : f.count ≤ length text
  pub whole : (more : List ℕ) → reading (take f.count text ++ more) ≡ body f.head f.set.tasks (lines_of more)
  pub set : f.set ≡ set_of f.head f.set.tasks
  pub scale : is_scale f.set.tasks f.head.scale ≡ true
