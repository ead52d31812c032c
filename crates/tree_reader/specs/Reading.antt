-- The reading of a tree text: what it says, or the least line at fault. Each line's test depends on earlier lines alone, but for the scale's, so the
-- first that fails is the least.
use Rattle.std.specs.Prelude.{ℕ, zero, suc, ◌+◌, ◌-◌, ◌==◌, nat_le, Bool, false, ◌&&◌, is_some, if◌then◌else◌}
use Rattle.std.specs.Prelude.{List, [], ◌∷◌, ◌++◌}
use Rattle.std.specs.Prelude.{Option, Some, None, length, codes, Result, Ok, Err}
use Rattle.std.specs.List.{sum_by}
use Rattle.sched_base.specs.Limits.{processor_limit, task_limit, unit_limit}
use Rattle.sched_base.specs.Sets.{SetContents}
use Rattle.trace_verdict.specs.Faults.{first_task_line}
use Rattle.text_words.specs.Words.{lines_of, after_word}
use Rattle.trace_format.specs.declared.versions.Version.TheVariants.{One}
use Rattle.trace_check.specs.Steps.{and_then, step, next_line, number_after, number_within}
use Rattle.trace_check.specs.TaskLines.{tasks_from, is_scale}
use Rattle.trace_check.specs.declared.head_lines.Head.{Head}
use Rattle.trace_check.specs.Reading.{set_of}
use Rattle.tree_check.specs.Written.{first_idle_line, Pack, Written}
use Rattle.tree_reader.specs.Packs.{pack_of, second_number}

-- ---- the first five lines

-- processors, horizon, scale and number of tasks. The scale may have any size here: it is judged once the tasks are read. Task lines are those of
-- a trace text of version 1.
abbrev pub tree_head : List (List ℕ) → Result (Head × List (List ℕ)) ℕ
tree_head lines =
    and_then (next_line 1 (number_within (codes "run-tree") 1 1) lines) (λ v.
    and_then (next_line 2 (number_within (codes "processors") 1 processor_limit) v.1) (λ p.
    and_then (next_line 3 (number_within (codes "horizon") 1 unit_limit) p.1) (λ h.
    and_then (next_line 4 (number_after (codes "scale")) h.1) (λ s.
    and_then (next_line 5 (number_within (codes "tasks") 0 task_limit) s.1) (λ t.
    Ok (record { version = One; processors = p.0; horizon = h.0; scale = s.0; tasks = t.0 }, t.1))))))

-- ---- idle leaves

-- the idle leaves from number k on, of which so many are left; the first of all stands on line `first`
abbrev pub idles_from : ℕ → ℕ → ℕ → List ℕ → List (List ℕ) → Result (List ℕ × List (List ℕ)) ℕ
idles_from first scale zero done lines = Ok (done, lines)
idles_from first scale (suc n) done lines =
    and_then (next_line (first + length done) (second_number (codes "idle") (length done) 1 scale) lines)
    (λ p. idles_from first scale n (done ++ p.0 ∷ []) p.1)

-- ---- levels

-- a pack more in the last of these levels
abbrev pub with_pack : Pack → List (List Pack) → List (List Pack)
with_pack p [] = []
with_pack p (packs ∷ []) = (packs ++ p ∷ []) ∷ []
with_pack p (packs ∷ (more ∷ levels)) = packs ∷ with_pack p (more ∷ levels)

-- packs of level l, of which so many are left; the first of all stands on line `first`
abbrev pub packs_from : ℕ → ℕ → ℕ → ℕ → List Pack → List (List ℕ) → Result (List Pack × List (List ℕ)) ℕ
packs_from scale l first zero done lines = Ok (done, lines)
packs_from scale l first (suc n) done lines =
    and_then (next_line (first + length done) (pack_of scale l) lines) (λ p. packs_from scale l first n (done ++ p.0 ∷ []) p.1)

-- the packs of level l, whose line has the number `at`
abbrev pub level_from : ℕ → ℕ → ℕ → List ℕ → List (List ℕ) → Result (List Pack × List (List ℕ)) ℕ
level_from scale l at line rest = and_then (step at (second_number (codes "level") l 1 1280 line) rest) (λ n. packs_from scale l (at + 1) n.0 [] n.1)

-- nothing follows the last line, which has this number
abbrev pub last_line : ℕ → List (List Pack) → List (List ℕ) → Result (List (List Pack)) ℕ
last_line at levels [] = Ok levels
last_line at levels (line ∷ rest) = Err (at + 1)

-- whether the number is that of these levels, of which there is one at least
abbrev pub is_count : List (List Pack) → Option ℕ → Bool
is_count levels None = false
is_count levels (Some n) = n == length levels && nat_le 1 n

-- the `levels` line, with its number
abbrev pub ended : ℕ → List (List Pack) → Option ℕ → List (List ℕ) → Result (List (List Pack)) ℕ
ended at levels n rest = if is_count levels n then last_line at levels rest else Err at

-- the levels from line `at` on, after these, the last of which wants so many packs more
abbrev pub levels_from : ℕ → ℕ → ℕ → List (List Pack) → List (List ℕ) → Result (List (List Pack)) ℕ
levels_from scale at left levels [] = Err at
levels_from scale at (suc left) levels (line ∷ rest) =
    and_then (step at (pack_of scale (length levels - 1) line) rest) (λ p. levels_from scale (at + 1) left (with_pack p.0 levels) rest)
levels_from scale at zero levels (line ∷ rest) =
    if is_some (after_word (codes "levels") line)
    then ended at levels (number_after (codes "levels") line) rest
    else and_then (step at (second_number (codes "level") (length levels) 1 1280 line) rest) (λ n. levels_from scale (at + 1) n.0 (levels ++ [] ∷ []) rest)

-- ---- the whole

-- from the `idles` line on, which follows the tasks
abbrev pub body : SetContents → ℕ → List (List ℕ) → Result Written ℕ
body set scale lines =
    and_then (next_line (first_task_line + length set.tasks) (number_within (codes "idles") 0 1024) lines) (λ n.
    and_then (idles_from (first_idle_line + length set.tasks) scale n.0 [] n.1) (λ i.
    and_then (levels_from scale (first_idle_line + length set.tasks + length i.0) 0 [] i.1) (λ levels.
    Ok (record { set = set; scale = scale; idles = i.0; levels = levels }))))

-- what a tree text says, or the least line at fault, the one after the last where it ends early. The scale, on line 4, is judged once all task
-- lines are right.
unfoldable pub reading : List ℕ → Result Written ℕ
reading text =
    and_then (tree_head (lines_of text)) (λ h.
    and_then (tasks_from One h.0.tasks [] h.1) (λ t.
    if is_scale t.0 h.0.scale then body (set_of h.0 t.0) h.0.scale t.1 else Err 4))

-- the lines of these levels
abbrev pub lines_so_far : List (List Pack) → ℕ
lines_so_far levels = sum_by (λ packs. suc (length packs)) levels
