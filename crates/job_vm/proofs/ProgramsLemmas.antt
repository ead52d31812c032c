-- Reading programs line by line.
use Rattle.std.proofs.Common.{ℕ, zero, suc, ◌+◌, ◌-◌, ◌≤◌, ◌≡◌, true, false, List, [], ◌∷◌, ◌++◌, length, set, get_or, Option, None, Some, Result, Ok}
use Rattle.std.proofs.Common.{Err, option_map, codes, sym, refl, ap, ◌∙◌, arith}
use Rattle.std.proofs.lemmas.Bool.{cond-true, cond-false}
use Rattle.std.specs.Prelude.{◌==◌}
use Rattle.std.specs.List.{after_first}
use Rattle.std.specs.Str.{bytes_eq}
use Rattle.text_words.specs.Words.{lines_of}
use Rattle.job_vm.specs.Faults.{NamesBadLine, NamesUnreadLine}
use Rattle.job_vm.specs.declared.faults.JobTextFault.{JobTextFault}
use Rattle.job_vm.specs.declared.faults.JobTextFault.TheVariants.{BadProgram, NoMemory}
use Rattle.job_vm.specs.Programs.{Program, Progress, is_tasks, lengthened, line_read, programs_from, programs_of, JobTextHeld, behind_lines, reading}

-- what the text says, by its programs and the number of its line `tasks`
abbrev job_text : List ℕ → Result (List Program × ℕ) ℕ → Result JobTextHeld ℕ
job_text text found = elim found [
  | Ok read ↦ Ok (record { programs = read.0; set_start = length text - length (behind_lines read.1 text) })
  | Err line ↦ Err line
]

-- the line `tasks` ends the reading
tasks_end : (at : ℕ) (done : Progress) (lines more : List (List ℕ)) (line : List ℕ) → lines ≡ line ∷ more → is_tasks line ≡ true →
    programs_from at done lines ≡ Ok (done.programs, at)
tasks_end at done lines more line e tasks = ap (programs_from at done) e ∙ cond-true _ _ _ tasks

-- what is read from a line on
abbrev from_line : ℕ → List (List ℕ) → Option Progress → Result (List Program × ℕ) ℕ
from_line at more found = elim found [ Some now ↦ programs_from (at + 1) now more | None ↦ Err at ]

pub line_more : (at : ℕ) (done now : Progress) (lines more : List (List ℕ)) (line : List ℕ) → lines ≡ line ∷ more → is_tasks line ≡ false →
    line_read at done line more ≡ Some now
    → programs_from at done lines ≡ programs_from (at + 1) now more
line_more at done now lines more line e other read = ap (programs_from at done) e ∙ (cond-false _ _ _ other ∙ ap (from_line at more) read)

line_stops : (at : ℕ) (done : Progress) (lines more : List (List ℕ)) (line : List ℕ) → lines ≡ line ∷ more → is_tasks line ≡ false → line_read at done line
    more ≡ None
    → programs_from at done lines ≡ Err at
line_stops at done lines more line e other read = ap (programs_from at done) e ∙ (cond-false _ _ _ other ∙ ap (from_line at more) read)

-- what stands behind one line feed more
pub behind_more : (bytes rest next : List ℕ) (at : ℕ) → 1 ≤ at → rest ≡ behind_lines (at - 1) bytes → next ≡ after_first (λ b. b == 10) rest →
    next ≡ behind_lines at bytes
behind_more bytes rest next zero some e f = absurd (omega (arith, some))
behind_more bytes rest next (suc n) some e f =
    let less : suc n - 1 ≡ n = omega arith in
    f ∙ ap (after_first (λ b. b == 10)) (e ∙ ap (λ k. behind_lines k bytes) less)

-- a text of no byte lacks its first line
pub reading_empty : (bytes : List ℕ) → length bytes ≡ 0 → reading bytes ≡ Err 1
unfolding reading
reading_empty [] none = refl
reading_empty (b ∷ bs) none = absurd (omega (arith, none))

-- another first line
pub reading_other : (bytes first : List ℕ) (more : List (List ℕ)) → lines_of bytes ≡ first ∷ more → bytes_eq first (codes "run-jobs 1") ≡ false →
    reading bytes ≡ Err 1
unfolding reading
reading_other bytes first more e other = ap (λ ls. job_text bytes (programs_of ls)) e ∙ ap (job_text bytes) (cond-false _ _ _ other)

-- the line `tasks` was met
pub reading_tasks : (bytes next : List ℕ) (at : ℕ) (done : Progress) (lines more : List (List ℕ)) (line : List ℕ) →
    programs_of (lines_of bytes) ≡ programs_from at done lines → lines ≡ line ∷ more
    → is_tasks line ≡ true → next ≡ behind_lines at bytes → reading bytes ≡ Ok (record { programs = done.programs; set_start = length bytes - length next })
unfolding reading
reading_tasks bytes next at done lines more line so e tasks rest =
    ap (job_text bytes) (so ∙ tasks_end at done lines more line e tasks)
    ∙ ap (λ r. Ok (record { programs = done.programs; set_start = length bytes - length r })) (sym rest)

-- a line was at fault
pub reading_stops : (bytes : List ℕ) (at : ℕ) (done : Progress) (lines more : List (List ℕ)) (line : List ℕ) (f : JobTextFault) →
    programs_of (lines_of bytes) ≡ programs_from at done lines
    → lines ≡ line ∷ more → is_tasks line ≡ false → NamesUnreadLine at (line_read at done line more) f → NamesBadLine (reading bytes) f
unfolding reading
reading_stops bytes at done lines more line (BadProgram l) so e other s =
    ap (job_text bytes) (so ∙ line_stops at done lines more line e other s.1) ∙ ap Err (sym s.0)
reading_stops bytes at done lines more line NoMemory so e other s = tt

-- the lines ended before `tasks`
pub reading_ends : (bytes rest : List ℕ) (at : ℕ) (done : Progress) → programs_of (lines_of bytes) ≡ programs_from at done (lines_of rest) →
    length rest ≡ 0 → reading bytes ≡ Err at
unfolding reading
reading_ends bytes [] at done so none = ap (job_text bytes) so
reading_ends bytes (b ∷ bs) at done so none = absurd (omega (arith, none))

-- the program with a word more
abbrev pub with_word : Program → ℕ → Program
with_word p word = record p { code = p.code ++ word ∷ [] }

-- a word more at the end of the last program, by its place
pub lengthened_last : (ps : List Program) (word at : ℕ) (d : Program) → suc at ≡ length ps → lengthened ps word ≡ Some
    (set ps at (with_word (get_or ps at d) word))
lengthened_last [] word at d e = absurd (omega (arith, e))
lengthened_last (p ∷ []) word zero d e = refl
lengthened_last (p ∷ []) word (suc at) d e = absurd (omega (arith, e))
lengthened_last (p ∷ (q ∷ more)) word zero d e = absurd (omega (arith, e))
lengthened_last (p ∷ (q ∷ more)) word (suc at) d e = ap (λ o. option_map (λ ps. p ∷ ps) o) (lengthened_last (q ∷ more) word at d (omega (arith, e)))

-- a list with no program has none to go on with
pub lengthened_none : (ps : List Program) (word : ℕ) → length ps ≡ 0 → lengthened ps word ≡ None
lengthened_none [] word e = refl
lengthened_none (p ∷ ps) word e = absurd (omega (arith, e))
