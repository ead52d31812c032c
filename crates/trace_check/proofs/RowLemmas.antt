-- Row lines: numbers past every limit, and one line after the other.
use Rattle.std.proofs.Common.{Fits, w64, get_or, replicate, ℕ, ◌+◌, ◌-◌, ◌^◌, ◌<◌, ◌≤◌, ◌≡◌, ◌&&◌, inl, inr, eqb, ltb, leb, cond, Bool, true, false}
use Rattle.std.proofs.Common.{List, [], ◌∷◌, ◌++◌, length, length-append, Option, Some, None, option_map, option_and_then, Ok, Err, codes, sym, refl}
use Rattle.std.proofs.Common.{ap, ◌∙◌, subst, arith}
use Rattle.std.proofs.lemmas.Bool.{cases_Bool, both_ways, and_parts, eqb-true, eqb-false, ltb-true, leb-true, false_from_ne_true, cond-false}
use Rattle.std.proofs.lemmas.List.{length-replicate, get_or-replicate}
use Rattle.sched_base.specs.declared.rows.Row.{Row}
use Rattle.sched_base.specs.declared.sets.Task.{Task}
use Rattle.sched_base.specs.Tables.{row_limit}
use Rattle.trace_verdict.proofs.EntryLemmas.{AllByRecursion-append}
use Rattle.text_words.specs.Words.{lines_of, after_word, number_of, cut_space}
use Rattle.trace_check.specs.declared.row_lines.RowsRead.{RowsRead}
use Rattle.trace_check.specs.RowLines.{leaf_named, row_from, row_of, rows_from, IsRead, AreTotals}
use Rattle.trace_check.specs.RowsRead.{AreRead, ReadsRows}
use Rattle.trace_check.proofs.TaskLemmas.{cap, no_lines}

-- ---- numbers past every limit

-- the tests of the numbers of a row, after so many rows
abbrev fit : ℕ → ℕ → ℕ → ℕ → Bool
fit count p s e = leb p (2 ^ 32 - 1) && (ltb s e && (leb e (2 ^ 127 - 1) && ltb count row_limit))

record Within (p s e : ℕ) : Type 0 where
  pub processor : p < 2 ^ 127
  pub start : s < 2 ^ 127
  pub end : e < 2 ^ 127

within : (count p s e : ℕ) → fit count p s e ≡ true → Within p s e
within count p s e h =
    let a = and_parts (leb p (2 ^ 32 - 1)) (ltb s e && (leb e (2 ^ 127 - 1) && ltb count row_limit)) h in
    let b = and_parts (ltb s e) (leb e (2 ^ 127 - 1) && ltb count row_limit) a.1 in
    let c = and_parts (leb e (2 ^ 127 - 1)) (ltb count row_limit) b.1 in
    let processor = leb-true _ _ a.0 in
    let start = ltb-true _ _ b.0 in
    let end = leb-true _ _ c.0 in
    record { processor = omega (arith, processor); start = omega (arith, start, end); end = omega (arith, end) }

cap_within : (n : ℕ) → cap n < 2 ^ 127 → cap n ≡ n
cap_within n h = omega (arith, h)

within_cap : (n : ℕ) → n < 2 ^ 127 → cap n ≡ n
within_cap n h = omega (arith, h)

row_from_same : (tasks : List Task) (done : List Row) (name : List ℕ) (p s e p' s' e' : ℕ) → p ≡ p' → s ≡ s' → e ≡ e' → row_from tasks done p s e
    name ≡ row_from tasks done p' s' e' name
row_from_same tasks done name p s e p' s' e' a b c =
    ap (λ x. row_from tasks done x s e name) a ∙ (ap (λ x. row_from tasks done p' x e name) b ∙ ap (λ x. row_from tasks done p' s' x name) c)

row_from_unfit : (tasks : List Task) (done : List Row) (name : List ℕ) (p s e : ℕ) → fit (length done) p s e ≡ false → row_from tasks done p s e name ≡ None
row_from_unfit tasks done name p s e h = cond-false (fit (length done) p s e) _ _ h

row_from_capped : (tasks : List Task) (done : List Row) (name : List ℕ) (p s e : ℕ) → row_from tasks done (cap p) (cap s) (cap e) name ≡ row_from tasks done
    p s e name
row_from_capped tasks done name p s e =
    elim (cases_Bool (fit (length done) p s e)) [
      | inl t ↦ (let w = within (length done) p s e t in row_from_same tasks done name _ _ _ _ _ _ (within_cap p w.processor) (within_cap s w.start)
          (within_cap e w.end))
      | inr f ↦ (
          let g : fit (length done) (cap p) (cap s) (cap e) ≡ false = false_from_ne_true _ (λ t. (
          let w = within (length done) (cap p) (cap s) (cap e) t in
          let a = cap_within p w.processor in
          let b = cap_within s w.start in
          let c = cap_within e w.end in
          let back : fit (length done) p s e ≡ true
          = sym (ap (λ x. fit (length done) x (cap s) (cap e)) a ∙ (ap (λ x. fit (length done) p x (cap e)) b ∙ ap (λ x. fit (length done) p s x) c)) ∙ t in
          both_ways _ f back)) in
          row_from_unfit tasks done name (cap p) (cap s) (cap e) g ∙ sym (row_from_unfit tasks done name p s e f))
    ]

-- the code's numbers are those of the words, capped
numbers_capped : {B : Type 0} (f : ℕ → ℕ → ℕ → Option B) (a b c : Option ℕ) (p s e : ℕ) → Some p ≡ option_map cap a → Some s ≡ option_map cap b →
    Some e ≡ option_map cap c
    → ((p s e : ℕ) → f (cap p) (cap s) (cap e) ≡ f p s e) → f p s e ≡ option_and_then (λ p. option_and_then (λ s. option_and_then (λ e. f p s e) c) b) a
numbers_capped f None b c p s e x y z h = (let n : Some p ≡ None = x in cc)
numbers_capped f (Some i) None c p s e x y z h = (let n : Some s ≡ None = y in cc)
numbers_capped f (Some i) (Some j) None p s e x y z h = (let n : Some e ≡ None = z in cc)
numbers_capped f (Some i) (Some j) (Some k) p s e x y z h =
    let a : p ≡ cap i = cc in
    let b : s ≡ cap j = cc in
    let c : e ≡ cap k = cc in
    ap (λ w. f w s e) a ∙ (ap (λ w. f (cap i) w e) b ∙ (ap (λ w. f (cap i) (cap j) w) c ∙ h i j k))

-- the row of a line, by the code's steps
pub row_of_is : (tasks : List Task) (done : List Row) (line rest processor r start q end name : List ℕ) (p s e : ℕ) → Some rest ≡ after_word (codes "row")
    line → Some (processor, r) ≡ cut_space rest
    → Some (start, q) ≡ cut_space r → Some (end, name) ≡ cut_space q → Some p ≡ option_map cap (number_of processor) → Some s ≡ option_map cap (number_of start)
    → Some e ≡ option_map cap (number_of end) → row_from tasks done p s e name ≡ row_of tasks done line
row_of_is tasks done line rest processor r start q end name p s e a b c d x y z =
    rw (sym a, sym b, sym c, sym d)
    (numbers_capped (λ p s e. row_from tasks done p s e name) (number_of processor) (number_of start) (number_of end) p s e x y z (row_from_capped tasks
    done name))

-- ---- a name of no leaf

either_way : {A : Type 0} (b : Bool) (o : Option A) → o ≡ cond b o o
either_way true o = refl
either_way false o = refl

pub row_unnamed : (tasks : List Task) (done : List Row) (p s e : ℕ) (name : List ℕ) → leaf_named tasks name ≡ None → None ≡ row_from tasks done p s e name
row_unnamed tasks done p s e name none = rw none (either_way (fit (length done) p s e) None)

-- ---- one line after the other

-- these rows were read so far, with these totals, and these lines follow
pub record ReadSoFar (tasks : List Task) (text : List ℕ) (done : List Row) (sums rest : List ℕ) : Type 0 where
  pub lines : rows_from (6 + length tasks) tasks [] (lines_of text) ≡ rows_from (6 + length tasks) tasks done (lines_of rest)
  pub totals : AreTotals done sums
  pub count : length sums ≡ length tasks
  pub each : AreRead tasks done
  pub few : length done ≤ 2097152

-- before the first row
pub read_none : (tasks : List Task) (text : List ℕ) (done : List Row) (sums : List ℕ) (n : ℕ) → done ≡ [] → sums ≡ replicate n 0 → n ≡ length tasks →
    ReadSoFar tasks text done sums text
read_none tasks text done sums n none zeros many =
    let long : length sums ≡ n = ap length zeros ∙ length-replicate n 0 in
    let zero_at : (j : ℕ) → j < length sums → get_or sums j 0 ≡ 0 = λ j low. ap (λ xs. get_or xs j 0) zeros ∙ get_or-replicate n j 0 0
    (subst (λ m. j < m) long low) in
    subst (λ rows. ReadSoFar tasks text rows sums text) (sym none) (record {
      lines = refl;
      totals = λ j low. (zero_at j low, subst (λ m. m < 2 ^ 127) (sym (zero_at j low)) (omega arith));
      count = long ∙ many;
      each = tt;
      few = omega arith;
    })

pub tasks_line_fits : (count tasks : ℕ) → count ≡ tasks → tasks ≤ 256 → Fits w64 (6 + count)
tasks_line_fits count tasks e few = omega arith

pub row_line_fits : (count tasks len rows : ℕ) → count ≡ tasks → tasks ≤ 256 → len ≡ rows → rows ≤ 2097152 → Fits w64 (6 + count + len)
row_line_fits count tasks len rows e few f most = omega arith

pub some_left : (n : ℕ) → eqb n 0 ≡ false → 0 < n
some_left n h = (let ne = eqb-false n 0 h in omega (arith, ne))

pub none_left : (tasks : List Task) (done : List Row) (text : List ℕ) → eqb (length text) 0 ≡ true → (first : ℕ) → rows_from first tasks done
    (lines_of text) ≡ Ok (done, lines_of text)
none_left tasks done text h first = rw (no_lines text (eqb-true _ _ h)) refl

pub read_more : (tasks : List Task) (text rest later : List ℕ) (done more : List Row) (r : Row) (sums new : List ℕ) → ReadSoFar tasks text done sums rest →
    IsRead tasks done r
    → ((first : ℕ) → rows_from first tasks done (lines_of rest) ≡ rows_from first tasks (done ++ r ∷ []) (lines_of later)) → more ≡ done ++ r ∷ []
    → AreTotals (done ++ r ∷ []) new → length new ≡ length sums → ReadSoFar tasks text more new later
read_more tasks text rest later done more r sums new so read next now totals long =
    let count = length-append done (r ∷ []) in
    let room = read.room in
    subst (λ (rows : List Row). ReadSoFar tasks text rows new later) (sym now) (record {
      lines = so.lines ∙ next (6 + length tasks);
      totals = totals;
      count = long ∙ so.count;
      each = AllByRecursion-append (λ q. (before : List Row) × IsRead tasks before q) done (r ∷ []) so.each ((done, read), tt);
      few = omega (arith, count, room);
    })

pub read_ends : (tasks : List Task) (text : List ℕ) (read : RowsRead) → ReadSoFar tasks text read.rows read.totals.items read.rest.now
    → ((first : ℕ) → rows_from first tasks read.rows (lines_of read.rest.now) ≡ Ok (read.rows, lines_of read.rest.now)) → ReadsRows tasks text read
read_ends tasks text read so ends = record { rows = so.lines ∙ ends (6 + length tasks); each = so.each; few = so.few; totals = so.totals; count = so.count }

pub read_stops : (tasks : List Task) (text rest : List ℕ) (done : List Row) (sums : List ℕ) (line : ℕ) → ReadSoFar tasks text done sums rest
    → ((first : ℕ) → rows_from first tasks done (lines_of rest) ≡ Err (first + length done)) → line ≡ 6 + length tasks + length done
    → rows_from (6 + length tasks) tasks [] (lines_of text) ≡ Err line
read_stops tasks text rest done sums line so stops at = so.lines ∙ (stops (6 + length tasks) ∙ ap Err (sym at))
