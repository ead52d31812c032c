-- The programs of a job text, and where its set begins.
use Rattle.std.specs.Prelude.{ℕ, zero, suc, ◌+◌, ◌-◌, ◌==◌, not, Bool, ◌&&◌, ◌||◌, if◌then◌else◌, List, [], ◌∷◌}
use Rattle.std.specs.Prelude.{◌++◌, length, codes}
use Rattle.std.specs.Prelude.{Option, Some, None, option_map, option_and_then, is_some, Result, Ok, Err}
use Rattle.std.specs.List.{list_all, after_first, position_or_len}
use Rattle.std.specs.Str.{bytes_eq}
use Rattle.sched_base.specs.Bytes.{line_feed}
use Rattle.sched_base.specs.Names.{is_lawful_name}
use Rattle.text_words.specs.Words.{lines_of, after_word}
use Rattle.job_vm.specs.Instructions.{instruction_of}

-- a program: the name of its task, the number of the line that begins it, and its words
pub record Program : Type 0 where
  pub name : List ℕ
  pub line : ℕ
  pub code : List ℕ

-- what a job text says: its programs, and the index of the byte where its set begins
pub record JobTextHeld : Type 0 where
  pub programs : List Program
  pub set_start : ℕ

-- the line `tasks`, behind which the set stands
abbrev pub is_tasks : List ℕ → Bool
is_tasks line = bytes_eq line (codes "tasks")

-- the number of instructions of a program before these lines: of whatever form they are, up to where another one begins, by `program`
-- and a space, or the set
abbrev pub instructions : List (List ℕ) → ℕ
instructions lines = position_or_len (λ line. is_some (after_word (codes "program") line) || is_tasks line) lines

-- none of these programs has the name
abbrev pub is_new : List Program → List ℕ → Bool
is_new programs name = list_all (λ p. not (bytes_eq p.name name)) programs

-- the programs and a further one of this name, lawful and new, that line `at` begins
abbrev pub begun : ℕ → List Program → List ℕ → Option (List Program)
begun at done name = if is_lawful_name name && is_new done name then Some (done ++ record { name = name; line = at; code = [] } ∷ []) else None

-- the programs with a word more at the end of the last one; none where there is no program
abbrev pub lengthened : List Program → ℕ → Option (List Program)
lengthened [] word = None
lengthened (p ∷ []) word = Some (record p { code = p.code ++ word ∷ [] } ∷ [])
lengthened (p ∷ (q ∷ more)) word = option_map (λ ps. p ∷ ps) (lengthened (q ∷ more) word)

-- what is read up to a line: the programs, and the number of instructions of the last one
pub record Progress : Type 0 where
  pub programs : List Program
  pub count : ℕ

-- what is read after line `at`, before these further lines; none where the line is at fault
abbrev pub line_read : ℕ → Progress → List ℕ → List (List ℕ) → Option Progress
line_read at done line lines =
    elim (after_word (codes "program") line) [
      | Some name ↦ option_map (λ ps. record { programs = ps; count = instructions lines }) (begun at done.programs name)
      | None ↦ option_map (λ ps. record done { programs = ps }) (option_and_then (lengthened done.programs) (instruction_of done.count line))
    ]

-- the programs of the lines from number `at` on, up to the line `tasks`, and that line's number; or the least line at fault
abbrev pub programs_from : ℕ → Progress → List (List ℕ) → Result (List Program × ℕ) ℕ
programs_from at done [] = Err at
programs_from at done (line ∷ lines) =
    if is_tasks line then Ok (done.programs, at)
    else elim (line_read at done line lines) [ Some now ↦ programs_from (at + 1) now lines | None ↦ Err at ]

-- what stands behind the first n line feeds of a text; nothing where it has fewer
abbrev pub behind_lines : ℕ → List ℕ → List ℕ
behind_lines zero text = text
behind_lines (suc n) text = after_first (λ b. b == line_feed) (behind_lines n text)

-- the programs of a job text's lines, and the number of its line `tasks`; or the least line at fault
abbrev pub programs_of : List (List ℕ) → Result (List Program × ℕ) ℕ
programs_of [] = Err 1
programs_of (first ∷ lines) =
    if bytes_eq first (codes "run-jobs 1") then programs_from 2 (record { programs = []; count = 0 }) lines else Err 1

-- what a job text says, or its least line at fault
unfoldable pub reading : List ℕ → Result JobTextHeld ℕ
reading text =
    elim (programs_of (lines_of text)) [
      | Ok read ↦ Ok (record { programs = read.0; set_start = length text - length (behind_lines read.1 text) })
      | Err line ↦ Err line
    ]
