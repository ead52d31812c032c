-- What a tree text that is read says of its set.
use Rattle.std.proofs.Common.{◌≡◌, ℕ, zero, suc, ◌+◌, ◌-◌, ◌^◌, ◌<◌, ◌≤◌, ◌&&◌, Bool, true, false, cond, leb, ltb, List, [], ◌∷◌, ◌++◌, length}
use Rattle.std.proofs.Common.{Option, Some, None, option_and_then, Result, Ok, Err, codes, refl, ap, arith, sym, subst, length-append}
use Rattle.std.specs.List.{AllByRecursion}
use Rattle.std.proofs.lemmas.Bool.{and_parts, leb-true, ltb-true}
use Rattle.sched_base.specs.declared.sets.Task.{Task}
use Rattle.sched_base.specs.Names.{is_lawful_name}
use Rattle.sched_base.specs.Sets.{SetContents, IsLawful, IsLawfulTask, IsFree, NamesDiffer}
use Rattle.text_words.specs.Words.{lines_of, after_word, cut_space, number_of}
use Rattle.trace_format.specs.declared.versions.Version.TheVariants.{One}
use Rattle.trace_format.specs.Conditions.{AreOnTime}
use Rattle.trace_check.specs.declared.head_lines.Head.{Head}
use Rattle.trace_check.specs.Steps.{and_then, step, next_line, number_after, number_within, within}
use Rattle.trace_check.specs.TaskLines.{is_new, are_lawful, task_from, task_of, tasks_from, is_scale}
use Rattle.trace_check.specs.Reading.{set_of}
use Rattle.trace_check.proofs.TaskLemmas.{new_free}
use Rattle.tree_check.specs.Written.{Written}
use Rattle.tree_reader.specs.Reading.{tree_head, idles_from, levels_from, body, reading}

-- ---- steps

-- what was read next was read of something
pub and_then_ok : {A B : Type 0} (r : Result A ℕ) (next : A → Result B ℕ) (y : B) → and_then r next ≡ Ok y → (x : A) × (r ≡ Ok x) × (next x ≡ Ok y)
and_then_ok (Ok x) next y e = (x, refl, e)
and_then_ok (Err line) next y e = cc

-- the same of options
pub and_then_some : {A B : Type 0} (o : Option A) (next : A → Option B) (y : B) → option_and_then next o ≡ Some y → (x : A) × (o ≡ Some x) × (next x ≡ Some y)
and_then_some None next y e = cc
and_then_some (Some x) next y e = (x, refl, e)

-- a value that a test lets through
pub passed : {A : Type 0} (b : Bool) (x y : A) → cond b (Some x) None ≡ Some y → (b ≡ true) × (x ≡ y)
passed true x y e = (refl, cc)
passed false x y e = cc

-- what a line gave was read of it
pub line_gave : {A : Type 0} (at : ℕ) (read : List ℕ → Option A) (lines rest : List (List ℕ)) (x : A) → next_line at read lines ≡ Ok (x, rest) →
    (line : List ℕ) × (read line ≡ Some x)
line_gave at read [] rest x e = cc
line_gave {A} at read (line ∷ more) rest x e = (line, go (read line) e)
  where
    go : (o : Option A) → step at o more ≡ Ok (x, rest) → o ≡ Some x
    go None f = cc
    go (Some y) f =
        let q : ◌≡◌ {A = A × List (List ℕ)} (y, more) (x, rest) = cc in
        ap Some (ap (λ (p : A × List (List ℕ)). p.0) q)

-- a number that was read is within its limits
pub number_in : (at : ℕ) (word : List ℕ) (low high n : ℕ) (lines rest : List (List ℕ)) → next_line at (number_within word low high) lines ≡ Ok (n, rest) →
    (low ≤ n) × (n ≤ high)
number_in at word low high n lines rest e =
    let (line, f) = line_gave at (number_within word low high) lines rest n e in
    let (k, g, h) = and_then_some (number_after word line) (within low high) n f in
    let p = passed (leb low k && leb k high) k n h in
    let q = and_parts (leb low k) (leb k high) p.0 in
    let a = leb-true low k q.0 in
    let b = leb-true k high q.1 in
    let same = p.1 in
    (omega (arith, a, same), omega (arith, b, same))

-- ---- tasks

-- a task that was read after these is lawful, on time, and has a new name
pub record IsRead (done : List Task) (t : Task) : Type 0 where
  pub lawful : IsLawfulTask t
  pub on_time : t.offset ≡ 0
  pub free : IsFree t.name done

task_in : (done : List Task) (name : List ℕ) (work period : ℕ) (t : Task) → task_from done name work period 0 ≡ Some t → IsRead done t
task_in done name work period t e =
    let made : Task = record { name = name; work = work; period = period; offset = 0 } in
    let p = passed ((is_lawful_name name && is_new done name) && are_lawful work period 0) made t e in
    let a = and_parts (is_lawful_name name && is_new done name) (are_lawful work period 0) p.0 in
    let n = and_parts (is_lawful_name name) (is_new done name) a.0 in
    let c = and_parts (leb 1 period && ltb period (2 ^ 32)) ((leb 1 work && leb work period) && ltb 0 (2 ^ 32)) a.1 in
    let d = and_parts (leb 1 period) (ltb period (2 ^ 32)) c.0 in
    let f = and_parts (leb 1 work && leb work period) (ltb 0 (2 ^ 32)) c.1 in
    let g = and_parts (leb 1 work) (leb work period) f.0 in
    subst (IsRead done) p.1 (record {
      lawful = record {
        name = n.0;
        some_work = leb-true 1 work g.0;
        work_fits = leb-true work period g.1;
        period_fits = ltb-true period (2 ^ 32) d.1;
        offset_fits = omega arith;
      };
      on_time = refl;
      free = new_free done name n.1;
    })

pub task_read : (done : List Task) (line : List ℕ) (t : Task) → task_of One done line ≡ Some t → IsRead done t
task_read done line t e =
    let (rest, a, b) = and_then_some (after_word (codes "task") line) _ t e in
    let (name, c, d) = and_then_some (cut_space rest) _ t b in
    let (work, f, g) = and_then_some (cut_space name.1) _ t d in
    let (w, h, i) = and_then_some (number_of work.0) _ t g in
    let (period, j, k) = and_then_some (number_of work.1) _ t i in
    task_in done name.0 w period t k

-- what is so of the tasks that were read so far
pub record AreRead (tasks : List Task) : Type 0 where
  pub lawful : AllByRecursion IsLawfulTask tasks
  pub on_time : AreOnTime tasks
  pub differ : NamesDiffer tasks

free_from : (tasks : List Task) (t : Task) → IsFree t.name tasks → NamesDiffer tasks → NamesDiffer (tasks ++ t ∷ [])
free_from [] t free differ = (tt, tt)
free_from (u ∷ tasks) t free differ = (free_last tasks differ.0, free_from tasks t free.1 differ.1)
  where
    free_last : (us : List Task) → IsFree u.name us → IsFree u.name (us ++ t ∷ [])
    free_last [] f = ((λ e. free.0 (sym e)), tt)
    free_last (x ∷ us) f = (f.0, free_last us f.1)

all_from : (P : Task → Type 0) (tasks : List Task) (t : Task) → AllByRecursion P tasks → P t → AllByRecursion P (tasks ++ t ∷ [])
all_from P [] t a p = (p, tt)
all_from P (u ∷ tasks) t a p = (a.0, all_from P tasks t a.1 p)

tasks_with : (done : List Task) (t : Task) → AreRead done → IsRead done t → AreRead (done ++ t ∷ [])
tasks_with done t a r = record {
  lawful = all_from IsLawfulTask done t a.lawful r.lawful;
  on_time = all_from (λ u. u.offset ≡ 0) done t a.on_time r.on_time;
  differ = free_from done t r.free a.differ;
}

pub tasks_read : (n : ℕ) (done tasks : List Task) (lines rest : List (List ℕ)) → tasks_from One n done lines ≡ Ok (tasks, rest) → AreRead done →
    AreRead tasks × (length tasks ≡ length done + n)
tasks_read zero done tasks lines rest e a =
    let q : ◌≡◌ {A = List Task × List (List ℕ)} (done, lines) (tasks, rest) = cc in
    let same : done ≡ tasks = ap (λ (p : List Task × List (List ℕ)). p.0) q in
    (subst AreRead same a, (let n = ap length same in omega (arith, n)))
tasks_read (suc n) done tasks lines rest e a =
    let (p, f, g) = and_then_ok (next_line (6 + length done) (task_of One done) lines) (λ p. tasks_from One n (done ++ p.0 ∷ []) p.1) (tasks, rest) e in
    let (line, h) = line_gave (6 + length done) (task_of One done) lines p.1 p.0 f in
    let r = tasks_read n (done ++ p.0 ∷ []) tasks p.1 rest g (tasks_with done p.0 a (task_read done line p.0 h)) in
    let more = length-append done (p.0 ∷ []) in
    let long = r.1 in
    (r.0, omega (arith, more, long))

-- ---- the head

pub record IsHead (h : Head) : Type 0 where
  pub some_processors : 1 ≤ h.processors
  pub few_processors : h.processors ≤ 32
  pub some_horizon : 1 ≤ h.horizon
  pub horizon_fits : h.horizon < 2 ^ 32
  pub few_tasks : h.tasks ≤ 256

pub head_read : (lines : List (List ℕ)) (h : Head × List (List ℕ)) → tree_head lines ≡ Ok h → IsHead h.0
head_read lines h e =
    let (v, ev, e1) = and_then_ok (next_line 1 (number_within (codes "run-tree") 1 1) lines) _ h e in
    let (p, ep, e2) = and_then_ok (next_line 2 (number_within (codes "processors") 1 32) v.1) _ h e1 in
    let (z, ez, e3) = and_then_ok (next_line 3 (number_within (codes "horizon") 1 (2 ^ 32 - 1)) p.1) _ h e2 in
    let (s, es, e4) = and_then_ok (next_line 4 (number_after (codes "scale")) z.1) _ h e3 in
    let (t, et, e5) = and_then_ok (next_line 5 (number_within (codes "tasks") 0 256) s.1) _ h e4 in
    let q : ◌≡◌ {A = Head × List (List ℕ)} (record { version = One; processors = p.0; horizon = z.0; scale = s.0; tasks = t.0 }, t.1) h = cc in
    let a = number_in 2 (codes "processors") 1 32 p.0 v.1 p.1 ep in
    let b = number_in 3 (codes "horizon") 1 (2 ^ 32 - 1) z.0 p.1 z.1 ez in
    let c = number_in 5 (codes "tasks") 0 256 t.0 s.1 t.1 et in
    let b1 = b.1 in
    subst (λ (x : Head × List (List ℕ)). IsHead x.0) q
    (record { some_processors = a.0; few_processors = a.1; some_horizon = b.0; horizon_fits = omega (arith, b1); few_tasks = c.1 })

-- ---- the whole

pub body_set : (set : SetContents) (scale : ℕ) (lines : List (List ℕ)) (w : Written) → body set scale lines ≡ Ok w → set ≡ w.set
body_set set scale lines w e =
    let (n, en, e1) = and_then_ok (next_line (6 + length set.tasks) (number_within (codes "idles") 0 1024) lines) _ w e in
    let (i, ei, e2) = and_then_ok (idles_from (7 + length set.tasks) scale n.0 [] n.1) _ w e1 in
    let (levels, el, e3) = and_then_ok (levels_from scale (7 + length set.tasks + length i.0) 0 [] i.1) _ w e2 in
    let made : Written = record { set = set; scale = scale; idles = i.0; levels = levels } in
    let q : made ≡ w = cc in
    ap (λ (x : Written). x.set) q

-- the set of a text that is read, which is within the limits and released at unit 0
pub record IsSetRead (s : SetContents) : Type 0 where
  pub lawful : IsLawful s
  pub on_time : AreOnTime s.tasks

pub set_read : (bytes : List ℕ) (w : Written) → reading bytes ≡ Ok w → IsSetRead w.set
unfolding reading
set_read bytes w e =
    let (h, eh, e1) = and_then_ok (tree_head (lines_of bytes)) _ w e in
    let (t, et, e2) = and_then_ok (tasks_from One h.0.tasks [] h.1) _ w e1 in
    let head = head_read (lines_of bytes) h eh in
    let tasks = tasks_read h.0.tasks [] t.0 h.1 t.1 et (record { lawful = tt; on_time = tt; differ = tt }) in
    let same : set_of h.0 t.0 ≡ w.set = judged (is_scale t.0 h.0.scale) (set_of h.0 t.0) h.0.scale t.1 e2 in
    let few = head.few_tasks in
    let long = tasks.1 in
    subst IsSetRead same (record {
      lawful = record {
        some_processors = head.some_processors;
        few_processors = head.few_processors;
        some_horizon = head.some_horizon;
        horizon_fits = head.horizon_fits;
        few_tasks = omega (arith, few, long);
        each = tasks.0.lawful;
        names_differ = tasks.0.differ;
      };
      on_time = tasks.0.on_time;
    })
  where
    judged : (b : Bool) (s : SetContents) (scale : ℕ) (lines : List (List ℕ)) → cond b (body s scale lines) (Err 4) ≡ Ok w → s ≡ w.set
    judged true s scale lines f = body_set s scale lines w f
    judged false s scale lines f = cc
