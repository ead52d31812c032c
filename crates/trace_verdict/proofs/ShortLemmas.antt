-- Rows in few bytes, one after the other.
use Rattle.std.proofs.Common.{suc, add-one, ℕ, ◌+◌, ◌<◌, ◌≤◌, ◌≡◌, ◌&&◌, inl, inr, Bool, true, false, List, [], ◌∷◌, length, length-append, map, drop}
use Rattle.std.proofs.Common.{get_or, Option, Some, None, sym, refl, ap, ◌∙◌, arith}
use Rattle.std.specs.Prelude.{is_some}
use Rattle.std.proofs.Math.Seq.{drop-cons}
use Rattle.std.proofs.lemmas.Bool.{cases_lt, or_left, or_right, and_from, eq-eqb, le-leb, lt-ltb}
use Rattle.std.proofs.lemmas.List.{get_or_default, get_or-map, drop_all}
use Rattle.sched_base.specs.Counting.{bit}
use Rattle.sched_base.specs.declared.rows.Row.{Row}
use Rattle.sched_base.specs.Sets.{SetContents}
use Rattle.trace_verdict.specs.declared.row_list.ShortRow.{ShortRow}
use Rattle.trace_verdict.specs.Faults.{row_at}
use Rattle.trace_verdict.specs.Orders.{task_key, entry_of, entries_from}
use Rattle.trace_verdict.specs.RowLists.{row_for}
use Rattle.trace_verdict.specs.Searches.{is_fit, IsFirstUnfit}
use Rattle.trace_verdict.specs.Standing.{comes_after, stand}

-- rows stand from the first one on where they stand behind a row of no ticks at the first tick of the first processor
pub stand_zero : (z : Row) (rows : List Row) → z.processor ≡ 0 → z.end ≡ 0 → stand None rows ≡ stand (Some z) rows
stand_zero z [] p e = refl
stand_zero z (r ∷ rows) p e = ap (λ b. b && stand (Some r) rows) (sym first)
  where
    first : comes_after (Some z) r ≡ true
    first =
        elim (cases_lt z.processor r.processor) [
          | inl l ↦ or_left _ _ (lt-ltb _ _ l)
          | inr ge ↦ or_right _ _ (and_from _ _ (eq-eqb z.processor r.processor (omega (arith, ge, p))) (le-leb z.end r.start (omega (arith, e))))
        ]

-- the first rows stand behind this one, have no fault by themselves, and so many are of tasks
pub record StandsSoFar (s : SetContents) (scale : ℕ) (rows : List Row) (i total : ℕ) (last : Row) : Type 0 where
  pub stands : stand None rows ≡ stand (Some last) (drop i rows)
  pub fit : (j : ℕ) → j < i → is_fit s scale (row_at rows j) ≡ true
  pub count : total + length (entries_from task_key i (drop i rows)) ≡ length (entries_from task_key 0 rows)
  pub few : total ≤ i

pub stands_none : (s : SetContents) (scale : ℕ) (rows : List Row) (z : Row) → z.processor ≡ 0 → z.end ≡ 0 → StandsSoFar s scale rows 0 0 z
stands_none s scale rows z p e =
    record { stands = stand_zero z rows p e; fit = λ j l. absurd (omega (arith, l)); count = alone (length (entries_from task_key 0 rows)); few = omega arith }
  where
    alone : (n : ℕ) → 0 + n ≡ n
    alone n = omega arith

-- how many entries a row has
entry_count : (r : Row) (at : ℕ) → length (entry_of (task_key r) r at) ≡ bit (is_some (task_key r))
entry_count r at = go (task_key r)
  where
    go : (key : Option ℕ) → length (entry_of key r at) ≡ bit (is_some key)
    go None = refl
    go (Some k) = refl

pub stands_more : (s : SetContents) (scale : ℕ) (rows : List Row) (i total new : ℕ) (last r d : Row) → StandsSoFar s scale rows i total last →
    i < length rows → r ≡ get_or rows i d
    → comes_after (Some last) r ≡ true → is_fit s scale r ≡ true → new ≡ total + bit (is_some (task_key r)) → StandsSoFar s scale rows (i + 1) new r
stands_more s scale rows i total new last r d so within is after fits sum =
    let next : drop i rows ≡ r ∷ drop (i + 1) rows
    = drop-cons rows i d within ∙ ap (λ q. q ∷ drop (suc i) rows) (sym is) ∙ ap (λ n. r ∷ drop n rows) (sym (add-one i)) in
    let split = ap length (ap (entries_from task_key i) next) ∙ length-append (entry_of (task_key r) r i) (entries_from task_key (i + 1) (drop (i + 1) rows)) in
    let one = entry_count r i in
    let few = so.few in
    let count = so.count in
    record {
      stands = so.stands ∙ ap (stand (Some last)) next ∙ ap (λ b. b && stand (Some r) (drop (i + 1) rows)) after;
      fit = λ j l. elim (cases_lt j i) [
        | inl less ↦ so.fit j less
        | inr ge ↦ ap (λ k. is_fit s scale (row_at rows k)) (let same : j ≡ i = omega (arith, l, ge) in same) ∙ ap (is_fit s scale)
            (sym (is ∙ get_or_default rows i d _ within)) ∙ fits
      ];
      count = omega (arith, sum, count, split, one);
      few = (let small = bit_small (is_some (task_key r)) in omega (arith, few, sum, small));
    }
  where
    bit_small : (b : Bool) → bit b ≤ 1
    bit_small true = omega arith
    bit_small false = omega arith

-- all rows stand
pub stands_all : (s : SetContents) (scale : ℕ) (rows : List Row) (i total : ℕ) (last : Row) → StandsSoFar s scale rows i total last → length rows ≤ i
    → (stand None rows ≡ true) × IsFirstUnfit s scale rows (length rows) × (total ≡ length (entries_from task_key 0 rows))
stands_all s scale rows i total last so past =
    let none : drop i rows ≡ [] = drop_all i rows past in
    let left : length (entries_from task_key i (drop i rows)) ≡ 0 = ap (λ l. length (entries_from task_key i l)) none in
    let count = so.count in (
      so.stands ∙ ap (stand (Some last)) none,
      record { within = omega arith; before = λ j l. so.fit j (omega (arith, l, past)); at = λ l. absurd (omega (arith, l)) },
      omega (arith, count, left),
    )

-- the row that a short one at a place stands for
pub short_at : (items : List ShortRow) (i : ℕ) (d : ShortRow) → i < length items → row_for (get_or items i d) ≡ row_at (map row_for items) i
short_at items i d within = sym (get_or-map row_for items i d _ within)
