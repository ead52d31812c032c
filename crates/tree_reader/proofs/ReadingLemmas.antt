-- The reading of a text, part by part.
use Rattle.std.proofs.Common.{lit<, ◌≡◌, ℕ, zero, suc, ◌+◌, ◌-◌, ◌^◌, ◌<◌, ◌≤◌, true, false, cond, List, [], ◌∷◌, ◌++◌, Option, Some, None, Result}
use Rattle.std.proofs.Common.{Ok, Err, codes, length, get_or, refl, ap, ap₂, arith, inl, inr, sym, subst, ◌∙◌}
use Rattle.std.specs.Prelude.{is_some, IfOk, IfErr}
use Rattle.std.specs.List.{AllByRecursion, range_with_len, sum_by}
use Rattle.std.proofs.lemmas.Bool.{cases_lt, cond-true, cond-false}
use Rattle.std.proofs.lemmas.List.{length-append, get_or_append_left}
use Rattle.std.proofs.lemmas.List.Sums.{sum_by-cons}
use Rattle.sched_base.specs.declared.sets.Task.{Task}
use Rattle.sched_base.specs.Sets.{SetContents, IsLawful}
use Rattle.text_words.specs.Words.{lines_of, after_word}
use Rattle.trace_format.specs.declared.versions.Version.TheVariants.{One}
use Rattle.trace_check.specs.declared.faults.TraceFault.{TraceFault}
use Rattle.trace_check.specs.declared.head_lines.Head.{Head}
use Rattle.trace_check.specs.Steps.{and_then, step, next_line, number_after, number_within}
use Rattle.trace_check.specs.HeadLines.{capped}
use Rattle.trace_check.specs.TaskLines.{tasks_from, is_scale}
use Rattle.trace_check.specs.Reading.{set_of}
use Rattle.trace_check.proofs.ReadingLemmas.{scale_of_head, head_same}
use Rattle.trace_check.proofs.ScaleTest.{is_scale_to}
use Rattle.tree_check.specs.Written.{Pack, Written, IsWritten, IsWrittenLevel, level_at, end_line}
use Rattle.trace_check.specs.declared.faults.TraceFault.{TraceFault}
use Rattle.trace_check.specs.declared.faults.TraceFault.TheVariants.{BadLine, NoMemory}
use Rattle.trace_check.specs.Faults.{NamesBadLine}
use Rattle.tree_reader.specs.Packs.{pack_of, second_number}
use Rattle.tree_reader.specs.Reading.{tree_head, idles_from, packs_from, level_from, with_pack, last_line, is_count, ended, levels_from, body}
use Rattle.tree_reader.specs.Reading.{reading, lines_so_far}

-- ---- one line more

pub idles_more : (first scale n at k : ℕ) (done : List ℕ) (lines rest : List (List ℕ)) (rate : ℕ) → 0 < n → at ≡ first + length done → k ≡ length done
    → next_line at (second_number (codes "idle") k 1 scale) lines ≡ Ok (rate, rest) → idles_from first scale n done lines ≡ idles_from first scale (n - 1)
    (done ++ rate ∷ []) rest
idles_more first scale zero at k done lines rest rate some a b e = absurd (omega (arith, some))
idles_more first scale (suc n) at k done lines rest rate some a b e =
    let one : n ≡ suc n - 1 = omega arith in
    let f = sym (ap₂ (λ x y. next_line x (second_number (codes "idle") y 1 scale) lines) a b) ∙ e in
    ap (λ r. and_then r (λ (p : ℕ × List (List ℕ)). idles_from first scale n (done ++ p.0 ∷ []) p.1)) f
    ∙ ap (λ m. idles_from first scale m (done ++ rate ∷ []) rest) one

pub idles_stop : (first scale n at k : ℕ) (done : List ℕ) (lines : List (List ℕ)) (line : ℕ) → 0 < n → at ≡ first + length done → k ≡ length done
    → next_line at (second_number (codes "idle") k 1 scale) lines ≡ Err line → idles_from first scale n done lines ≡ Err line
idles_stop first scale zero at k done lines line some a b e = absurd (omega (arith, some))
idles_stop first scale (suc n) at k done lines line some a b e =
    ap (λ r. and_then r (λ (p : ℕ × List (List ℕ)). idles_from first scale n (done ++ p.0 ∷ []) p.1))
    (sym (ap₂ (λ x y. next_line x (second_number (codes "idle") y 1 scale) lines) a b) ∙ e)

pub packs_more : (scale l first n : ℕ) (done : List Pack) (lines rest : List (List ℕ)) (line : List ℕ) (p : Pack) → 0 < n → lines ≡ line ∷ rest →
    pack_of scale l line ≡ Some p
    → packs_from scale l first n done lines ≡ packs_from scale l first (n - 1) (done ++ p ∷ []) rest
packs_more scale l first zero done lines rest line p some e f = absurd (omega (arith, some))
packs_more scale l first (suc n) done lines rest line p some e f =
    let one : suc n - 1 ≡ n = omega arith in
    rw (e, f, one) refl

pub packs_stop : (scale l first n : ℕ) (done : List Pack) (lines rest : List (List ℕ)) (line : List ℕ) → 0 < n → lines ≡ line ∷ rest →
    pack_of scale l line ≡ None
    → packs_from scale l first n done lines ≡ Err (first + length done)
packs_stop scale l first zero done lines rest line some e f = absurd (omega (arith, some))
packs_stop scale l first (suc n) done lines rest line some e f = rw (e, f) refl

pub packs_end : (scale l first n : ℕ) (done : List Pack) (lines : List (List ℕ)) → 0 < n → lines ≡ [] → packs_from scale l first n done lines ≡ Err
    (first + length done)
packs_end scale l first zero done lines some e = absurd (omega (arith, some))
packs_end scale l first (suc n) done lines some e = rw e refl

-- ---- the levels, one by one

pub with_last : (p : Pack) (levels : List (List Pack)) (done : List Pack) → with_pack p (levels ++ done ∷ []) ≡ levels ++ (done ++ p ∷ []) ∷ []
with_last p [] done = refl
with_last p (packs ∷ []) done = refl
with_last p (packs ∷ (more ∷ levels)) done = ap (λ ls. packs ∷ ls) (with_last p (more ∷ levels) done)

-- what follows once the packs of a level are read, the first of which stands on line `first`
abbrev pub next_level : ℕ → ℕ → List (List Pack) → Result (List Pack × List (List ℕ)) ℕ → Result (List (List Pack)) ℕ
next_level scale first levels r = and_then r (λ p. levels_from scale (first + length p.0) 0 (levels ++ p.0 ∷ []) p.1)

-- the packs that a level still wants, and then the next level
pub levels_packs : (scale first n at : ℕ) (levels : List (List Pack)) (done : List Pack) (lines : List (List ℕ)) → at ≡ first + length done
    → levels_from scale at n (levels ++ done ∷ []) lines
    ≡ and_then (packs_from scale (length levels) first n done lines) (λ p. levels_from scale (first + length p.0) 0 (levels ++ p.0 ∷ []) p.1)
levels_packs scale first zero at levels done lines e = ap (λ k. levels_from scale k 0 (levels ++ done ∷ []) lines) e
levels_packs scale first (suc n) at levels done [] e = ap Err e
levels_packs scale first (suc n) at levels done (line ∷ rest) e =
    let long = length-append levels (done ∷ []) in
    let l : length (levels ++ done ∷ []) - 1 ≡ length levels = omega (arith, long) in
    ap (λ k. and_then (step at (pack_of scale k line) rest) (λ (p : Pack × List (List ℕ)). levels_from scale (at + 1) n
    (with_pack p.0 (levels ++ done ∷ [])) rest)) l
    ∙ go (pack_of scale (length levels) line) (λ p. levels_packs scale first n (at + 1) levels (done ++ p ∷ []) rest (let a = length-append done (p ∷ []) in
    omega (arith, a, e)))
  where
    go : (o : Option Pack) → ((p : Pack) → levels_from scale (at + 1) n (levels ++ (done ++ p ∷ []) ∷ []) rest ≡ next_level scale first levels
        (packs_from scale (length levels) first n (done ++ p ∷ []) rest))
        → and_then (step at o rest) (λ (p : Pack × List (List ℕ)). levels_from scale (at + 1) n (with_pack p.0 (levels ++ done ∷ [])) rest)
        ≡ next_level scale first levels (and_then (step (first + length done) o rest) (λ (p : Pack × List (List ℕ)). packs_from scale (length levels) first
        n (done ++ p.0 ∷ []) p.1))
    go None ih = ap Err e
    go (Some p) ih = ap (λ ls. levels_from scale (at + 1) n ls rest) (with_last p levels done) ∙ ih p

-- a level, and then the next one
pub levels_level : (scale at : ℕ) (levels : List (List Pack)) (line : List ℕ) (rest : List (List ℕ)) → is_some (after_word (codes "levels") line) ≡ false
    → levels_from scale at 0 levels (line ∷ rest)
    ≡ and_then (level_from scale (length levels) at line rest) (λ p. levels_from scale (at + 1 + length p.0) 0 (levels ++ p.0 ∷ []) p.1)
levels_level scale at levels line rest off =
    cond-false (is_some (after_word (codes "levels") line)) _ _ off
    ∙ go (second_number (codes "level") (length levels) 1 1280 line)
  where
    go : (o : Option ℕ) → and_then (step at o rest) (λ (n : ℕ × List (List ℕ)). levels_from scale (at + 1) n.0 (levels ++ [] ∷ []) rest)
        ≡ and_then (and_then (step at o rest) (λ (n : ℕ × List (List ℕ)). packs_from scale (length levels) (at + 1) n.0 [] n.1)) (λ p. levels_from scale
        (at + 1 + length p.0) 0 (levels ++ p.0 ∷ []) p.1)
    go None = refl
    go (Some n) = levels_packs scale (at + 1) n (at + 1) levels [] rest (omega arith)

pub levels_more : (scale at : ℕ) (levels : List (List Pack)) (lines rest after : List (List ℕ)) (line : List ℕ) (packs : List Pack) → lines ≡ line ∷ rest →
    is_some (after_word (codes "levels") line) ≡ false
    → level_from scale (length levels) at line rest ≡ Ok (packs, after) → levels_from scale at 0 levels lines ≡ levels_from scale (at + (1 + length packs))
    0 (levels ++ packs ∷ []) after
levels_more scale at levels lines rest after line packs e off f =
    let z : at + 1 + length packs ≡ at + (1 + length packs) = omega arith in
    ap (levels_from scale at 0 levels) e ∙ levels_level scale at levels line rest off
    ∙ ap (λ r. and_then r (λ (p : List Pack × List (List ℕ)). levels_from scale (at + 1 + length p.0) 0 (levels ++ p.0 ∷ []) p.1)) f
    ∙ ap (λ k. levels_from scale k 0 (levels ++ packs ∷ []) after) z

pub levels_stop : (scale at : ℕ) (levels : List (List Pack)) (lines rest : List (List ℕ)) (line : List ℕ) (fault : TraceFault) → lines ≡ line ∷ rest →
    is_some (after_word (codes "levels") line) ≡ false
    → NamesBadLine (level_from scale (length levels) at line rest) fault → NamesBadLine (levels_from scale at 0 levels lines) fault
levels_stop scale at levels lines rest line (BadLine bad) e off s =
    ap (levels_from scale at 0 levels) e ∙ levels_level scale at levels line rest off
    ∙ ap (λ r. and_then r (λ (p : List Pack × List (List ℕ)). levels_from scale (at + 1 + length p.0) 0 (levels ++ p.0 ∷ []) p.1)) s
levels_stop scale at levels lines rest line NoMemory e off s = tt

pub levels_done : (scale at : ℕ) (levels : List (List Pack)) (lines rest : List (List ℕ)) (line : List ℕ) → lines ≡ line ∷ rest →
    is_some (after_word (codes "levels") line) ≡ true
    → levels_from scale at 0 levels lines ≡ ended at levels (number_after (codes "levels") line) rest
levels_done scale at levels lines rest line e on = ap (levels_from scale at 0 levels) e ∙ cond-true (is_some (after_word (codes "levels") line)) _ _ on

below_all : (a b c : ℕ) → a ≤ b → b < c → a < c
below_all a b c small less = omega (arith, small, less)

-- a scale is less than the largest number that a word may write
pub scale_small : (scale : ℕ) → scale ≤ 2 ^ 94 → scale < 2 ^ 128 - 1
scale_small scale few = below_all scale (2 ^ 94) (2 ^ 128 - 1) few (lit< tt)

-- the number of a line has one after it that fits
pub line_fits : (at rest first text : ℕ) → at + rest ≤ first + text → first + text + 1 < 2 ^ 64 → at + 1 < 2 ^ 64
line_fits at rest first text within few = omega (arith, within, few)

-- so have the lines behind it
pub later_fits : (at later rest first text : ℕ) → later < rest → at + rest ≤ first + text → first + text + 1 < 2 ^ 64 → at + 1 + later < 2 ^ 64
later_fits at later rest first text less within few = omega (arith, less, within, few)

-- what is behind the packs of a level is less than what is behind the line before it
pub rest_smaller : (packs after later rest : ℕ) → packs + after ≤ later → later < rest → after < rest
rest_smaller packs after later rest some less = omega (arith, some, less)

-- what stops a reading stops one that it equals
pub stops_same : {A : Type 0} (r s : Result A ℕ) (fault : TraceFault) → r ≡ s → NamesBadLine s fault → NamesBadLine r fault
stops_same r s (BadLine line) e f = e ∙ f
stops_same r s NoMemory e f = tt

pub lawful_more : (scale : ℕ) (levels : List (List Pack)) (packs : List Pack) → ((l : ℕ) → l < length levels → IsWrittenLevel scale l (get_or levels l []))
    → IsWrittenLevel scale (length levels) packs
    → (l : ℕ) → l < length (levels ++ packs ∷ []) → IsWrittenLevel scale l (get_or (levels ++ packs ∷ []) l [])
lawful_more scale levels packs each new l low = elim (cases_lt l (length levels)) [
  | inl less ↦ subst (IsWrittenLevel scale l) (sym (get_or_append_left levels (packs ∷ []) [] l less)) (each l less)
  | inr ge ↦ (
      let long = length-append levels (packs ∷ []) in
      let e : length levels ≡ l = omega (arith, low, ge, long) in
      let P : ℕ → Type 0 = λ k. IsWrittenLevel scale k (get_or (levels ++ packs ∷ []) k []) in
      subst P e (subst (IsWrittenLevel scale (length levels)) (sym (last levels)) new))
]
  where
    last : (ls : List (List Pack)) → get_or (ls ++ packs ∷ []) (length ls) [] ≡ packs
    last [] = refl
    last (x ∷ ls) = last ls

-- ---- the whole text

pub stops_in_head : (text : List ℕ) (line : ℕ) → tree_head (lines_of text) ≡ Err line → reading text ≡ Err line
unfolding reading
stops_in_head text line e = rw e refl

-- what follows once the tasks are read
abbrev pub judged : Head → List Task × List (List ℕ) → Result Written ℕ
judged h t = cond (is_scale t.0 h.scale) (body (set_of h t.0) h.scale t.1) (Err 4)

pub reading_tasks : (text : List ℕ) (h : Head) (lines : List (List ℕ)) → tree_head (lines_of text) ≡ Ok (h, lines) → reading text ≡ and_then
    (tasks_from One h.tasks [] lines) (judged h)
unfolding reading
reading_tasks text h lines e = rw e refl

pub tasks_same : (head h : Head) (lines : List (List ℕ)) → head ≡ capped h → head.version ≡ One → tasks_from head.version head.tasks [] lines ≡ tasks_from
    One h.tasks [] lines
tasks_same head h lines c v = ap (λ w. tasks_from w head.tasks [] lines) v ∙ ap (λ (w : Head). tasks_from One w.tasks [] lines) c

pub stops_in_tasks : (text : List ℕ) (head h : Head) (lines : List (List ℕ)) (fault : TraceFault) → tree_head (lines_of text) ≡ Ok (h, lines) →
    head ≡ capped h → head.version ≡ One
    → NamesBadLine (tasks_from head.version head.tasks [] lines) fault → NamesBadLine (reading text) fault
stops_in_tasks text head h lines (BadLine line) e c v s = reading_tasks text h lines e ∙ ap (λ r. and_then r (judged h)) (sym (tasks_same head h lines c v) ∙ s)
stops_in_tasks text head h lines NoMemory e c v s = tt

pub reading_scale : (text : List ℕ) (head h : Head) (lines rest : List (List ℕ)) (tasks : List Task) → tree_head (lines_of text) ≡ Ok (h, lines) →
    head ≡ capped h → head.version ≡ One
    → tasks_from head.version head.tasks [] lines ≡ Ok (tasks, rest) → reading text ≡ judged h (tasks, rest)
reading_scale text head h lines rest tasks e c v s = reading_tasks text h lines e ∙ ap (λ r. and_then r (judged h)) (sym (tasks_same head h lines c v) ∙ s)

pub stops_at_scale : (text : List ℕ) (head h : Head) (lines rest : List (List ℕ)) (tasks : List Task) → tree_head (lines_of text) ≡ Ok (h, lines) →
    head ≡ capped h → head.version ≡ One
    → tasks_from head.version head.tasks [] lines ≡ Ok (tasks, rest) → is_scale tasks head.scale ≡ false → reading text ≡ Err 4
stops_at_scale text head h lines rest tasks e c v s f =
    reading_scale text head h lines rest tasks e c v s ∙ cond-false _ _ _ (sym (scale_of_head head h tasks c) ∙ f)

pub reading_body : (text : List ℕ) (head h : Head) (lines rest : List (List ℕ)) (set : SetContents) → tree_head (lines_of text) ≡ Ok (h, lines) →
    head ≡ capped h → head.version ≡ One
    → tasks_from head.version head.tasks [] lines ≡ Ok (set.tasks, rest) → is_scale set.tasks head.scale ≡ true → set ≡ set_of head set.tasks →
    reading text ≡ body set head.scale rest
reading_body text head h lines rest set e c v s t same =
    reading_scale text head h lines rest set.tasks e c v s
    ∙ (cond-true _ _ _ (sym (scale_of_head head h set.tasks c) ∙ t)
    ∙ (sym (ap (λ (w : Head). body (set_of w set.tasks) w.scale rest) (head_same head h set.tasks c t)) ∙ sym (ap (λ w. body w head.scale rest) same)))

-- ---- the form that the type of a tree that was read keeps

sum_places : (f : List Pack → ℕ) (levels : List (List Pack)) (a : ℕ) (g : ℕ → ℕ) → ((i : ℕ) → i < length levels → g (a + i) ≡ f (get_or levels i [])) →
    sum_by g (range_with_len a (length levels)) ≡ sum_by f levels
sum_places f [] a g same = refl
sum_places f (x ∷ levels) a g same =
    let e : a + 0 ≡ a = omega arith in
    let first = ap g (sym e) ∙ same 0 (omega arith) in
    let rest = sum_places f levels (a + 1) g (λ i low. (let s : a + 1 + i ≡ a + suc i = omega arith in ap g s ∙ same (suc i) (omega (arith, low)))) in
    let left = sum_by-cons g a (range_with_len (a + 1) (length levels)) in
    let right = sum_by-cons f x levels in
    omega (arith, first, rest, left, right)

pub lines_are : (w : Written) → end_line w ≡ 7 + length w.set.tasks + length w.idles + lines_so_far w.levels
lines_are w = ap (λ n. 7 + length w.set.tasks + length w.idles + n) (sum_places (λ packs. suc (length packs)) w.levels 0 (λ k. suc (length (level_at w k)))
    (λ i low. (let e : 0 + i ≡ i = omega arith in ap (λ k. suc (length (level_at w k))) e)))

pub written_is : (w : Written) → IsLawful w.set → is_scale w.set.tasks w.scale ≡ true → length w.idles ≤ 1024 → AllByRecursion (λ r. (1 ≤ r)
    × (r ≤ w.scale)) w.idles → 0 < length w.levels
    → ((l : ℕ) → l < length w.levels → IsWrittenLevel w.scale l (get_or w.levels l [])) → 7 + length w.set.tasks + length w.idles + lines_so_far
    w.levels < 2 ^ 64 → IsWritten w
written_is w lawful scale few idles some levels lines =
    let s = is_scale_to w.set.tasks w.scale scale in
    record {
      lawful = lawful;
      is_scale = s.0;
      scale_fits = s.1;
      few_idles = few;
      idles = idles;
      some_level = some;
      levels = levels;
      lines_fit = (let e = lines_are w in omega (arith, e, lines));
    }

-- ---- the head

pub head_is : (lines l1 l2 l3 l4 l5 : List (List ℕ)) (v p h s t : ℕ)
    → next_line 1 (number_within (codes "run-tree") 1 1) lines ≡ Ok (v, l1)
    → next_line 2 (number_within (codes "processors") 1 32) l1 ≡ Ok (p, l2)
    → next_line 3 (number_within (codes "horizon") 1 (2 ^ 32 - 1)) l2 ≡ Ok (h, l3)
    → next_line 4 (number_after (codes "scale")) l3 ≡ Ok (s, l4)
    → next_line 5 (number_within (codes "tasks") 0 256) l4 ≡ Ok (t, l5)
    → tree_head lines ≡ Ok (record { version = One; processors = p; horizon = h; scale = s; tasks = t }, l5)
head_is lines l1 l2 l3 l4 l5 v p h s t a b c d e = rw (a, b, c, d, e) refl

-- one element more, of which it holds too
pub all_push : {A : Type 0} (P : A → Type 0) (xs : List A) (x : A) → AllByRecursion P xs → P x → AllByRecursion P (xs ++ x ∷ [])
all_push P [] x a p = (p, tt)
all_push P (y ∷ xs) x a p = (a.0, all_push P xs x a.1 p)

-- ---- what follows the tasks

-- once the idle leaves are read
abbrev pub after_idles : SetContents → ℕ → List ℕ × List (List ℕ) → Result Written ℕ
after_idles set scale i = and_then (levels_from scale (7 + length set.tasks + length i.0) 0 [] i.1)
    (λ levels. Ok (record { set = set; scale = scale; idles = i.0; levels = levels }))

-- once their number is read
abbrev pub after_count : SetContents → ℕ → ℕ × List (List ℕ) → Result Written ℕ
after_count set scale n = and_then (idles_from (7 + length set.tasks) scale n.0 [] n.1) (after_idles set scale)

pub body_count : (set : SetContents) (scale at : ℕ) (lines : List (List ℕ)) (r : Result (ℕ × List (List ℕ)) ℕ) → at ≡ 6 + length set.tasks →
    next_line at (number_within (codes "idles") 0 1024) lines ≡ r
    → body set scale lines ≡ and_then r (after_count set scale)
body_count set scale at lines r a e = ap (λ x. and_then x (after_count set scale)) (sym (ap (λ k. next_line k (number_within (codes "idles") 0 1024) lines)
    a) ∙ e)

pub body_idles : (set : SetContents) (scale at first n : ℕ) (lines rest : List (List ℕ)) (r : Result (List ℕ × List (List ℕ)) ℕ) → at ≡ 6 + length set.tasks
    → next_line at (number_within (codes "idles") 0 1024) lines ≡ Ok (n, rest)
    → first ≡ 7 + length set.tasks → idles_from first scale n [] rest ≡ r → body set scale lines ≡ and_then r (after_idles set scale)
body_idles set scale at first n lines rest r a e b f =
    body_count set scale at lines (Ok (n, rest)) a e ∙ ap (λ x. and_then x (after_idles set scale)) (sym (ap (λ k. idles_from k scale n [] rest) b) ∙ f)

pub body_levels : (set : SetContents) (scale at first n start : ℕ) (lines rest later : List (List ℕ)) (idles : List ℕ) (r : Result (List (List Pack)) ℕ) →
    at ≡ 6 + length set.tasks
    → next_line at (number_within (codes "idles") 0 1024) lines ≡ Ok (n, rest) → first ≡ 7 + length set.tasks → idles_from first scale n [] rest ≡ Ok
    (idles, later) → start ≡ 7 + length set.tasks + length idles
    → levels_from scale start 0 [] later ≡ r → body set scale lines ≡ and_then r
    (λ levels. Ok (record { set = set; scale = scale; idles = idles; levels = levels }))
body_levels set scale at first n start lines rest later idles r a e b f s g =
    body_idles set scale at first n lines rest (Ok (idles, later)) a e b f
    ∙ ap (λ x. and_then x (λ levels. Ok (record { set = set; scale = scale; idles = idles; levels = levels })))
    (sym (ap (λ k. levels_from scale k 0 [] later) s) ∙ g)

pub stops_then : {A B : Type 0} (whole : Result B ℕ) (r : Result A ℕ) (next : A → Result B ℕ) (fault : TraceFault) → whole ≡ and_then r next →
    NamesBadLine r fault → NamesBadLine whole fault
stops_then whole r next (BadLine line) e s = e ∙ ap (λ x. and_then x next) s
stops_then whole r next NoMemory e s = tt

-- an answer of what a reading equals is one of the reading
pub ok_same : {A : Type 0} (r : Result A TraceFault) (x y : Result A ℕ) → x ≡ y → IfOk r (λ t. y ≡ Ok t) → IfOk r (λ t. x ≡ Ok t)
ok_same (Ok t) x y e h = e ∙ h
ok_same (Err f) x y e h = tt

pub err_same : {A : Type 0} (r : Result A TraceFault) (x y : Result A ℕ) → x ≡ y → IfErr r (NamesBadLine y) → IfErr r (NamesBadLine x)
err_same (Ok t) x y e h = tt
err_same (Err f) x y e h = stops_same x y f e h

pub ended_more : (at : ℕ) (levels : List (List Pack)) (n : Option ℕ) (lines : List (List ℕ)) (line : List ℕ) (rest : List (List ℕ)) →
    is_count levels n ≡ true → lines ≡ line ∷ rest → ended at levels n lines ≡ Err (at + 1)
ended_more at levels n lines line rest on e = cond-true (is_count levels n) (last_line at levels lines) (Err at) on ∙ ap (last_line at levels) e
