-- What is read of a text is lawful: its set, and its scale.
use Rattle.std.proofs.Common.{zero, suc, ℕ, ◌+◌, ◌-◌, ◌^◌, ◌<◌, ◌≤◌, ◌≡◌, ◌&&◌, inl, inr, ltb, leb, true, List, [], ◌∷◌, ◌++◌, length, length-append}
use Rattle.std.proofs.Common.{Option, Some, None, option_and_then, Result, Ok, Err, codes, sym, refl, ap, ◌∙◌, subst, arith}
use Rattle.std.specs.List.{AllByRecursion}
use Rattle.std.proofs.lemmas.Bool.{cases_Bool, and_parts, ltb-true, leb-true, cond-true, cond-false}
use Rattle.sched_base.specs.declared.sets.Task.{Task}
use Rattle.sched_base.specs.Names.{is_lawful_name}
use Rattle.sched_base.specs.Scale.{IsScale}
use Rattle.sched_base.specs.Sets.{IsLawful, IsLawfulTask, IsFree, NamesDiffer}
use Rattle.sched_base.proofs.SetLemmas.{AllByRecursion-push, NamesDiffer-push}
use Rattle.trace_format.specs.declared.versions.Version.{Version}
use Rattle.trace_format.specs.declared.versions.Version.TheVariants.{One, Two}
use Rattle.text_words.specs.Words.{lines_of, after_word, number_of, cut_space}
use Rattle.trace_check.specs.declared.head_lines.Head.{Head}
use Rattle.trace_check.specs.Steps.{and_then, step, next_line, number_after, within, number_within}
use Rattle.trace_check.specs.HeadLines.{version_of, head_from}
use Rattle.trace_check.specs.TaskLines.{is_new, are_lawful, task_from, task_ending, task_of, tasks_from, is_scale}
use Rattle.trace_check.specs.RowLines.{rows_from}
use Rattle.trace_check.specs.Traces.{Trace}
use Rattle.trace_check.specs.Reading.{set_of, ending, body, reading}
use Rattle.trace_check.proofs.ReadingLemmas.{judged}
use Rattle.trace_check.proofs.ScaleTest.{is_scale_to}
use Rattle.trace_check.proofs.TaskLemmas.{new_free}

-- ---- one step after the other

-- what was read first, where all was read
went_on : {A B : Type 0} (r : Result A ℕ) (next : A → Result B ℕ) (y : B) → and_then r next ≡ Ok y → (x : A) × (r ≡ Ok x) × (next x ≡ Ok y)
went_on (Ok x) next y e = (x, refl, e)
went_on {A} {B} (Err line) next y e = absurd (let f : ◌≡◌ {A = Result B ℕ} (Err line) (Ok y) = e in cc)

found_then : {A B : Type 0} (o : Option A) (next : A → Option B) (y : B) → option_and_then next o ≡ Some y → (x : A) × (o ≡ Some x) × (next x ≡ Some y)
found_then (Some x) next y e = (x, refl, e)
found_then {A} {B} None next y e = absurd (let f : ◌≡◌ {A = Option B} None (Some y) = e in cc)

same_first : {A : Type 0} (x y : A) (lines rest : List (List ℕ)) → ◌≡◌ {A = Result (A × List (List ℕ)) ℕ} (Ok (x, lines)) (Ok (y, rest)) → x ≡ y
same_first {A} x y lines rest e = let same : ◌≡◌ {A = A × List (List ℕ)} (x, lines) (y, rest) = cc in ap (λ p. p.0) same

step_line : {A : Type 0} (line : ℕ) (o : Option A) (lines rest : List (List ℕ)) (x : A) → step line o lines ≡ Ok (x, rest) → o ≡ Some x
step_line {A} line None lines rest x e = absurd (let f : ◌≡◌ {A = Result (A × List (List ℕ)) ℕ} (Err line) (Ok (x, rest)) = e in cc)
step_line {A} line (Some y) lines rest x e = ap Some (same_first y x lines rest e)

-- the line that was read
line_read : {A : Type 0} (line : ℕ) (read : List ℕ → Option A) (lines rest : List (List ℕ)) (x : A) → next_line line read lines ≡ Ok (x, rest) →
    (text : List ℕ) × (read text ≡ Some x)
line_read {A} line read [] rest x e = absurd (let f : ◌≡◌ {A = Result (A × List (List ℕ)) ℕ} (Err line) (Ok (x, rest)) = e in cc)
line_read line read (text ∷ lines) rest x e = (text, step_line line (read text) lines rest x e)

-- ---- the head

within_both : (low high n m : ℕ) → within low high n ≡ Some m → (low ≤ m) × (m ≤ high)
within_both low high n m e =
    elim (cases_Bool (leb low n && leb n high)) [
      | inl t ↦ (
          let p = and_parts (leb low n) (leb n high) t in
          let some : Some n ≡ Some m = sym (cond-true (leb low n && leb n high) (Some n) None t) ∙ e in
          let same : n ≡ m = cc in
          let low_end = leb-true low n p.0 in
          let high_end = leb-true n high p.1 in
          (omega (arith, same, low_end), omega (arith, same, high_end)))
      | inr f ↦ absurd (let none : None ≡ Some m = sym (cond-false (leb low n && leb n high) (Some n) None f) ∙ e in cc)
    ]

number_limits : (line low high : ℕ) (word : List ℕ) (lines rest : List (List ℕ)) (n : ℕ) → next_line line (number_within word low high) lines ≡ Ok (n, rest)
    → (low ≤ n) × (n ≤ high)
number_limits line low high word lines rest n e =
    let read = line_read line (number_within word low high) lines rest n e in
    let found = found_then (number_after word read.0) (within low high) n read.1 in
    within_both low high found.0 n found.2

-- what the limits of a set ask of its head
record IsWithin (h : Head) : Type 0 where
  some_processors : 1 ≤ h.processors
  few_processors : h.processors ≤ 32
  some_horizon : 1 ≤ h.horizon
  horizon_fits : h.horizon < 2 ^ 32
  few_tasks : h.tasks ≤ 256

head_within : (lines rest : List (List ℕ)) (h : Head) → head_from lines ≡ Ok (h, rest) → IsWithin h
head_within lines rest h e =
    let v = went_on (next_line 1 (number_within (codes "run-trace") 1 2) lines) _ (h, rest) e in
    let p = went_on (next_line 2 (number_within (codes "processors") 1 32) v.0.1) _ (h, rest) v.2 in
    let u = went_on (next_line 3 (number_within (codes "horizon") 1 (2 ^ 32 - 1)) p.0.1) _ (h, rest) p.2 in
    let s = went_on (next_line 4 (number_after (codes "scale")) u.0.1) _ (h, rest) u.2 in
    let t = went_on (next_line 5 (number_within (codes "tasks") 0 256) s.0.1) _ (h, rest) s.2 in
    let processors = number_limits 2 1 32 (codes "processors") v.0.1 p.0.1 p.0.0 p.1 in
    let horizon = number_limits 3 1 (2 ^ 32 - 1) (codes "horizon") p.0.1 u.0.1 u.0.0 u.1 in
    let tasks = number_limits 5 0 256 (codes "tasks") s.0.1 t.0.1 t.0.0 t.1 in
    let said : Head = record { version = version_of v.0.0; processors = p.0.0; horizon = u.0.0; scale = s.0.0; tasks = t.0.0 } in
    let same : said ≡ h = same_first said h t.0.1 rest t.2 in
    subst IsWithin same (record {
      some_processors = processors.0;
      few_processors = processors.1;
      some_horizon = horizon.0;
      horizon_fits = (let high = horizon.1 in omega (arith, high));
      few_tasks = tasks.1;
    })

-- ---- the tasks

-- a task within the limits, whose name none of the others has
abbrev IsNext : List Task → Task → Type 0
IsNext done t = IsLawfulTask t × IsFree t.name done

from_next : (done : List Task) (name : List ℕ) (w p o : ℕ) (t : Task) → task_from done name w p o ≡ Some t → IsNext done t
from_next done name w p o t e =
    let test = (is_lawful_name name && is_new done name) && are_lawful w p o in
    let said : Task = record { name = name; work = w; period = p; offset = o } in
    elim (cases_Bool test) [
      | inl h ↦ (
          let some : Some said ≡ Some t = sym (cond-true test (Some said) None h) ∙ e in
          let same : said ≡ t = cc in
          let both = and_parts (is_lawful_name name && is_new done name) (are_lawful w p o) h in
          let names = and_parts (is_lawful_name name) (is_new done name) both.0 in
          let numbers = and_parts (leb 1 p && ltb p (2 ^ 32)) ((leb 1 w && leb w p) && ltb o (2 ^ 32)) both.1 in
          let period = and_parts (leb 1 p) (ltb p (2 ^ 32)) numbers.0 in
          let others = and_parts (leb 1 w && leb w p) (ltb o (2 ^ 32)) numbers.1 in
          let work = and_parts (leb 1 w) (leb w p) others.0 in
          subst (IsNext done) same (
            record {
              name = names.0;
              some_work = leb-true 1 w work.0;
              work_fits = leb-true w p work.1;
              period_fits = ltb-true p (2 ^ 32) period.1;
              offset_fits = ltb-true o (2 ^ 32) others.1;
            },
            new_free done name names.1,
          ))
      | inr f ↦ absurd (let none : None ≡ Some t = sym (cond-false test (Some said) None f) ∙ e in cc)
    ]

ending_next : (v : Version) (done : List Task) (name : List ℕ) (w : ℕ) (rest : List ℕ) (t : Task) → task_ending v done name w rest ≡ Some t → IsNext done t
ending_next One done name w rest t e =
    let period = found_then (number_of rest) (λ period. task_from done name w period 0) t e in
    from_next done name w period.0 0 t period.2
ending_next Two done name w rest t e =
    let cut = found_then (cut_space rest) _ t e in
    let period = found_then (number_of cut.0.0) _ t cut.2 in
    let offset = found_then (number_of cut.0.1) _ t period.2 in
    from_next done name w period.0 offset.0 t offset.2

task_next : (v : Version) (done : List Task) (line : List ℕ) (t : Task) → task_of v done line ≡ Some t → IsNext done t
task_next v done line t e =
    let rest = found_then (after_word (codes "task") line) _ t e in
    let name = found_then (cut_space rest.0) _ t rest.2 in
    let work = found_then (cut_space name.0.1) _ t name.2 in
    let w = found_then (number_of work.0.0) _ t work.2 in
    ending_next v done name.0.0 w.0 work.0.1 t w.2

-- tasks within the limits, of so many names that differ
record AreLawful (n : ℕ) (tasks : List Task) : Type 0 where
  each : AllByRecursion IsLawfulTask tasks
  names_differ : NamesDiffer tasks
  count : length tasks ≡ n

tasks_lawful : (v : Version) (n : ℕ) (done : List Task) (lines rest : List (List ℕ)) (tasks : List Task) → tasks_from v n done lines ≡ Ok (tasks, rest)
    → AreLawful (length done) done → AreLawful (length done + n) tasks
tasks_lawful v zero done lines rest tasks e so_far =
    let same : done ≡ tasks = same_first done tasks lines rest e in
    subst (AreLawful (length done + 0)) same (record { each = so_far.each; names_differ = so_far.names_differ; count = omega arith })
tasks_lawful v (suc n) done lines rest tasks e so_far =
    let first = went_on (next_line (6 + length done) (task_of v done) lines) _ (tasks, rest) e in
    let task = first.0.0 in
    let line = line_read (6 + length done) (task_of v done) lines first.0.1 task first.1 in
    let next = task_next v done line.0 task line.1 in
    let more = length-append done (task ∷ []) in
    let own : AreLawful (length (done ++ task ∷ [])) (done ++ task ∷ []) = record {
      each = AllByRecursion-push IsLawfulTask done task so_far.each next.0;
      names_differ = NamesDiffer-push done task so_far.names_differ next.1;
      count = refl;
    } in
    let count : length (done ++ task ∷ []) + n ≡ length done + suc n = omega (arith, more) in
    subst (λ k. AreLawful k tasks) count (tasks_lawful v n (done ++ task ∷ []) first.0.1 rest tasks first.2 own)

-- ---- the trace

scaled : (h : Head) (tasks : List Task) (lines : List (List ℕ)) (t : Trace) → judged h (tasks, lines) ≡ Ok t → (is_scale tasks h.scale ≡ true)
    × (body h tasks lines ≡ Ok t)
scaled h tasks lines t e =
    elim (cases_Bool (is_scale tasks h.scale)) [
      | inl is ↦ (is, sym (cond-true (is_scale tasks h.scale) (body h tasks lines) (Err 4) is) ∙ e)
      | inr f ↦ absurd (let none : ◌≡◌ {A = Result Trace ℕ} (Err 4) (Ok t) = sym (cond-false (is_scale tasks h.scale) (body h tasks lines) (Err 4) f) ∙ e in cc)
    ]

ending_same : (at : ℕ) (said t : Trace) (other : Option ℕ) → ending at said other ≡ Ok t → said ≡ t
ending_same at said t None e = let read : ◌≡◌ {A = Result Trace ℕ} (Ok said) (Ok t) = e in cc
ending_same at said t (Some i) e = absurd (let none : ◌≡◌ {A = Result Trace ℕ} (Err (at + i)) (Ok t) = e in cc)

-- the trace is of the head and the tasks
record IsOf (h : Head) (tasks : List Task) (t : Trace) : Type 0 where
  set : t.set ≡ set_of h tasks
  scale : t.scale ≡ h.scale

body_of : (h : Head) (tasks : List Task) (lines : List (List ℕ)) (t : Trace) → body h tasks lines ≡ Ok t → IsOf h tasks t
body_of h tasks lines t e =
    let rows = went_on (rows_from (6 + length tasks) tasks [] lines) _ t e in
    let said : Trace = record { set = set_of h tasks; scale = h.scale; rows = rows.0.0 } in
    let same : said ≡ t = ending_same _ said t _ rows.2 in
    record { set = sym (ap (λ w. w.set) same); scale = sym (ap (λ w. w.scale) same) }

-- what holds of a trace that was read
record IsReadLawfully (t : Trace) : Type 0 where
  pub set : IsLawful t.set
  pub scale : IsScale t.set.tasks t.scale
  pub fits : t.scale ≤ 2 ^ 94

of_lawful : (h : Head) (tasks : List Task) (t : Trace) → IsWithin h → AreLawful h.tasks tasks → is_scale tasks h.scale ≡ true → IsOf h tasks t →
    IsReadLawfully t
of_lawful h tasks t head lawful is whole =
    let set = whole.set in
    let own : IsLawful (set_of h tasks) = record {
      some_processors = head.some_processors;
      few_processors = head.few_processors;
      some_horizon = head.some_horizon;
      horizon_fits = head.horizon_fits;
      few_tasks = (let few = head.few_tasks in let count = lawful.count in omega (arith, few, count));
      each = lawful.each;
      names_differ = lawful.names_differ;
    } in
    let scale = is_scale_to tasks h.scale is in
    let tasks_same : tasks ≡ t.set.tasks = sym (ap (λ s. s.tasks) set) in
    record {
      set = subst IsLawful (sym set) own;
      scale = subst (λ n. IsScale t.set.tasks n) (sym whole.scale) (subst (λ ts. IsScale ts h.scale) tasks_same scale.0);
      fits = (let same = whole.scale in let most = scale.1 in omega (arith, same, most));
    }

read_lawfully : (text : List ℕ) (t : Trace) → reading text ≡ Ok t → IsReadLawfully t
unfolding reading
read_lawfully text t e =
    let head = went_on (head_from (lines_of text)) _ t e in
    let h = head.0.0 in
    let tasks = went_on (tasks_from h.version h.tasks [] head.0.1) (judged h) t head.2 in
    let whole = scaled h tasks.0.0 tasks.0.1 t tasks.2 in
    let none : AreLawful (length {A = Task} []) [] = record { each = tt; names_differ = tt; count = refl } in
    let lawful : AreLawful (0 + h.tasks) tasks.0.0 = tasks_lawful h.version h.tasks [] head.0.1 tasks.0.1 tasks.0.0 tasks.1 none in
    let zero_more : 0 + h.tasks ≡ h.tasks = omega arith in
    of_lawful h tasks.0.0 t (head_within (lines_of text) head.0.1 h head.1) (subst (λ n. AreLawful n tasks.0.0) zero_more lawful) whole.0
    (body_of h tasks.0.0 tasks.0.1 t whole.1)

pub lawful_set : (text : List ℕ) (t : Trace) → reading text ≡ Ok t → IsLawful t.set
lawful_set text t e = (read_lawfully text t e).set

pub own_scale : (text : List ℕ) (t : Trace) → reading text ≡ Ok t → IsScale t.set.tasks t.scale
own_scale text t e = (read_lawfully text t e).scale

pub small_scale : (text : List ℕ) (t : Trace) → reading text ≡ Ok t → t.scale ≤ 2 ^ 94
small_scale text t e = (read_lawfully text t e).fits
