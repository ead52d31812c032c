-- The lines before the row lines, with more lines behind them.
use Rattle.std.proofs.Common.{zero, suc, ℕ, ◌+◌, ◌-◌, ◌^◌, ◌<◌, ◌≤◌, ◌≡◌, eqb, take, get_or, arith, inl, inr, true, List, [], ◌∷◌, ◌++◌, length}
use Rattle.std.proofs.Common.{Option, Some, None, Result, Ok, Err, codes, sym, refl, ap, ◌∙◌}
use Rattle.sched_base.specs.declared.sets.Task.{Task}
use Rattle.sched_base.specs.Sets.{SetContents}
use Rattle.text_words.specs.Words.{lines_of}
use Rattle.text_window.specs.Lines.{EndsLine}
use Rattle.text_window.proofs.LineLemmas.{ends_line_whole}
use Rattle.trace_format.specs.declared.versions.Version.{Version}
use Rattle.trace_check.specs.declared.head_lines.Head.{Head}
use Rattle.trace_check.specs.Steps.{and_then, step, next_line, number_after, number_within}
use Rattle.std.proofs.lemmas.List.{take-take, take_more, take_all}
use Rattle.trace_check.specs.declared.front.Front.{Front}
use Rattle.trace_check.specs.Fronts.{IsTextFront}
use Rattle.trace_check.specs.HeadLines.{head_from, capped}
use Rattle.trace_check.specs.TaskLines.{task_of, tasks_from, is_scale}
use Rattle.std.proofs.lemmas.Bool.{eqb-true}
use Rattle.trace_check.specs.Reading.{body, reading}
use Rattle.trace_check.proofs.ReadingLemmas.{reading_body, set_is}

-- what was read is read again where more lines stand behind, and they follow
abbrev Grows : {A : Type 0} → List (List ℕ) → Result (A × List (List ℕ)) ℕ → Result (A × List (List ℕ)) ℕ → Type 0
Grows {A = A} more a b = (x : A) (rest : List (List ℕ)) → a ≡ Ok (x, rest) → b ≡ Ok (x, rest ++ more)

then_grows : {A B : Type 0} (more : List (List ℕ)) (a b : Result (A × List (List ℕ)) ℕ) (next : A × List (List ℕ) → Result (B × List (List ℕ)) ℕ) →
    Grows more a b
    → ((x : A) (rest : List (List ℕ)) → Grows more (next (x, rest)) (next (x, rest ++ more))) → Grows more (and_then a next) (and_then b next)
then_grows more (Ok (x, rest)) b next first later y end e = ap (λ r. and_then r next) (first x rest refl) ∙ later x rest y end e
then_grows more (Err line) b next first later y end e = absurd (let f : Err line ≡ Ok (y, end) = e in cc)

pair_grows : {A : Type 0} (more : List (List ℕ)) (x y : A) (rest end : List (List ℕ)) → ◌≡◌ {A = Result (A × List (List ℕ)) ℕ} (Ok (x, rest)) (Ok (y, end))
    → ◌≡◌ {A = Result (A × List (List ℕ)) ℕ} (Ok (x, rest ++ more)) (Ok (y, end ++ more))
pair_grows {A = A} more x y rest end e = ap (λ (r : Result (A × List (List ℕ)) ℕ). longer r) e
  where
    longer : Result (A × List (List ℕ)) ℕ → Result (A × List (List ℕ)) ℕ
    longer (Ok p) = Ok (p.0, p.1 ++ more)
    longer (Err line) = Err line

step_grows : {A : Type 0} (more : List (List ℕ)) (line : ℕ) (found : Option A) (rest : List (List ℕ)) → Grows more (step line found rest)
    (step line found (rest ++ more))
step_grows more line (Some x) rest y end e = pair_grows more x y rest end e
step_grows more line None rest y end e = absurd (let f : Err line ≡ Ok (y, end) = e in cc)

line_grows : {A : Type 0} (more : List (List ℕ)) (line : ℕ) (read : List ℕ → Option A) (lines : List (List ℕ)) → Grows more (next_line line read lines)
    (next_line line read (lines ++ more))
line_grows more line read [] y end e = absurd (let f : Err line ≡ Ok (y, end) = e in cc)
line_grows more line read (text ∷ rest) y end e = step_grows more line (read text) rest y end e

told_grows : {A : Type 0} (more : List (List ℕ)) (x : A) (rest : List (List ℕ)) → Grows more (Ok (x, rest)) (Ok (x, rest ++ more))
told_grows more x rest y end e = pair_grows more x y rest end e

pub head_grows : (more lines : List (List ℕ)) → Grows more (head_from lines) (head_from (lines ++ more))
head_grows more lines =
    then_grows more _ _ _ (line_grows more 1 (number_within (codes "run-trace") 1 2) lines) (λ v l1.
    then_grows more _ _ _ (line_grows more 2 (number_within (codes "processors") 1 32) l1) (λ p l2.
    then_grows more _ _ _ (line_grows more 3 (number_within (codes "horizon") 1 (2 ^ 32 - 1)) l2) (λ h l3.
    then_grows more _ _ _ (line_grows more 4 (number_after (codes "scale")) l3) (λ s l4.
    then_grows more _ _ _ (line_grows more 5 (number_within (codes "tasks") 0 256) l4) (λ t l5. told_grows more _ l5)))))

pub tasks_grow : (more : List (List ℕ)) (version : Version) (n : ℕ) (done : List Task) (lines : List (List ℕ)) →
    Grows more (tasks_from version n done lines) (tasks_from version n done (lines ++ more))
tasks_grow more version zero done lines = told_grows more done lines
tasks_grow more version (suc n) done lines =
    then_grows more _ _ _ (line_grows more (6 + length done) (task_of version done) lines) (λ t rest. tasks_grow more version n (done ++ t ∷ []) rest)

-- the lines of a text that ends its last line, and then those of what follows
lines_on : (text more : List ℕ) → EndsLine text → lines_of (text ++ more) ≡ lines_of text ++ lines_of more
lines_on text more (inl none) = rw none refl
lines_on text more (inr some) = rw some.1 (ends_line_whole some.0 more)

pub front_body : (text first rest more : List ℕ) (head h : Head) (tasks : List Task) → EndsLine text → head_from (lines_of text) ≡ Ok (h, lines_of first) →
    head ≡ capped h
    → tasks_from head.version head.tasks [] (lines_of first) ≡ Ok (tasks, lines_of rest) → rest ≡ [] → is_scale tasks head.scale ≡ true
    → reading (text ++ more) ≡ body head tasks (lines_of more)
front_body text first rest more head h tasks ends head_is capped_is tasks_are none scale =
    let L = lines_of more in
    let whole : head_from (lines_of (text ++ more)) ≡ Ok (h, lines_of first ++ L) = ap head_from (lines_on text more ends) ∙ head_grows L (lines_of text) h
    (lines_of first) head_is in
    let named : tasks_from head.version head.tasks [] (lines_of first) ≡ Ok (tasks, []) = tasks_are ∙ ap (λ r. Ok (tasks, lines_of r)) none in
    reading_body (text ++ more) head h (lines_of first ++ L) L tasks whole capped_is (tasks_grow L head.version head.tasks [] (lines_of first) tasks []
    named) scale

-- the front of a longer text
pub front_of_text : (text : List ℕ) (n : ℕ) (f : Front) → n ≤ length text → f.count ≡ n → IsTextFront (take n text) f → IsTextFront text f
front_of_text text n f within is front =
    let least : f.count ≤ n = omega (arith, is) in
    record {
      within = omega (arith, within, is);
      whole = λ more. ap (λ t. reading (t ++ more)) (sym (take-take f.count n text least)) ∙ front.whole more;
      set = front.set;
      scale = front.scale;
    }

-- a text up to a line feed
pub ends_at : (text : List ℕ) (n : ℕ) → 0 < n → n ≤ length text → get_or text (n - 1) 0 ≡ 10 → EndsLine (take n text)
ends_at text n some within feed =
    let same : n ≡ (n - 1) + 1 = omega (arith, some) in
    inr (take (n - 1) text, ap (λ k. take k text) same ∙ take_more text (n - 1) 0 (omega (arith, some, within)) ∙ ap (λ b. take (n - 1) text ++ b ∷ []) feed)

no_bytes : (text : List ℕ) → length text ≡ 0 → text ≡ []
no_bytes [] e = refl
no_bytes (b ∷ bs) e = absurd (omega (arith, e))

-- what the code read of the lines before the row lines
pub front_is : (text first rest : List ℕ) (head h : Head) (s : SetContents) (f : Front) → EndsLine text → head_from (lines_of text) ≡ Ok (h, lines_of first)
    → head ≡ capped h
    → tasks_from head.version head.tasks [] (lines_of first) ≡ Ok (s.tasks, lines_of rest) → s.processors ≡ head.processors → s.horizon ≡ head.horizon →
    eqb (length rest) 0 ≡ true
    → is_scale s.tasks head.scale ≡ true → f.head ≡ head → f.set ≡ s → f.count ≡ length text → IsTextFront text f
front_is text first rest head h s f ends head_is capped_is tasks_are p o none scale same_head same_set count =
    let nil = no_bytes rest (eqb-true _ _ none) in
    let all : take f.count text ≡ text = ap (λ k. take k text) count ∙ take_all (length text) text (omega arith) in
    record {
      within = omega (arith, count);
      whole = λ more. rw (all, same_head, same_set) (front_body text first rest more head h s.tasks ends head_is capped_is tasks_are nil scale);
      set = rw (same_head, same_set) (set_is s head p o);
      scale = rw (same_head, same_set) scale;
    }
