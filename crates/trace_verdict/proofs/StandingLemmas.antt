-- Rows that stand in order: their entries are sorted as they are, and no two of one processor overlap.
use Rattle.std.proofs.Common.{zero, suc, add-one, append_assoc, append-nil, ℕ, ◌+◌, ◌<◌, ◌≤◌, ◌≡◌, inl, inr, true, false, List, [], ◌∷◌, ◌++◌, length}
use Rattle.std.proofs.Common.{take, drop, get_or, Option, Some, None, ◌&&◌, eqb, ltb, leb, sym, refl, ap, ◌∙◌, subst, arith}
use Rattle.std.specs.List.{AllByRecursion}
use Rattle.std.specs.List.Sorted.{IsSorted}
use Rattle.std.specs.declared.cmp.Ordering.{Ordering}
use Rattle.std.specs.declared.cmp.Ordering.TheVariants.{Equal, Greater}
use Rattle.std.specs.Ordering.{nat_cmp, ordering_then, is_lt}
use Rattle.std.proofs.lemmas.Bool.{and_parts, and_from, or_cases, or_left, or_right, eqb-true, eq-eqb, ne_eqb, cases_eq, leb-true, ltb-true, lt-ltb}
use Rattle.std.proofs.lemmas.Bool.{le-ltb, cond-true, cond-false, not_from_false}
use Rattle.std.proofs.lemmas.List.{map-append, take_more, take_all, take-append-drop, length-take-le, get_or-take}
use Rattle.std.proofs.Math.Seq.{drop-cons}
use Rattle.std.proofs.lemmas.List.Sorted.{IsPermutation-refl}
use Rattle.sched_base.specs.declared.rows.Row.{Row}
use Rattle.sched_base.specs.Sets.{SetContents}
use Rattle.trace_verdict.specs.declared.entries.Entry.{Entry}
use Rattle.trace_verdict.specs.Faults.{row_at, IsTraceRow}
use Rattle.trace_verdict.specs.Orders.{processor_key, entry_cmp, entries_from, places, IsOrder}
use Rattle.trace_verdict.specs.Overlaps.{is_apart_from, walk}
use Rattle.trace_verdict.specs.Searches.{overlaps, same_key, hits, IsFirstHit}
use Rattle.trace_verdict.specs.Standing.{comes_after, stand}
use Rattle.trace_verdict.proofs.EntryLemmas.{entry_for, entries_more}
use Rattle.trace_verdict.proofs.OverlapLemmas.{Rising-from_sorted, walk_to}
use Rattle.trace_verdict.proofs.PartLemmas.{hit_from}

pub later_key : (a b : ℕ) (rest : Ordering) → a < b → is_lt (ordering_then (nat_cmp b a) rest) ≡ false
later_key a b rest h =
    let e : nat_cmp b a ≡ Greater = cond-false _ _ _ (le-ltb b a (omega (arith, h))) ∙ cond-false _ _ _ (ne_eqb b a (λ s. omega (arith, s, h))) in
    subst (λ o. is_lt (ordering_then o rest) ≡ false) (sym e) refl

pub same_then : (a b : ℕ) (rest : Ordering) → a ≡ b → is_lt rest ≡ false → is_lt (ordering_then (nat_cmp b a) rest) ≡ false
same_then a b rest h r =
    let e : nat_cmp b a ≡ Equal = cond-false _ _ _ (le-ltb b a (omega (arith, h))) ∙ cond-true _ _ _ (eq-eqb b a (sym h)) in
    subst (λ o. is_lt (ordering_then o rest) ≡ false) (sym e) r

-- the entries of two rows of which the second comes after the first
in_order : (l r : Row) (at next : ℕ) → l.start < l.end → comes_after (Some l) r ≡ true → is_lt (entry_cmp (entry_for r.processor r next)
    (entry_for l.processor l at)) ≡ false
in_order l r at next long h =
    elim (or_cases (ltb l.processor r.processor) (eqb l.processor r.processor && leb l.end r.start) h) [
      | inl less ↦ later_key l.processor r.processor _ (ltb-true _ _ less)
      | inr both ↦ (
          let p = and_parts (eqb l.processor r.processor) (leb l.end r.start) both in
          let ends = leb-true _ _ p.1 in
          same_then l.processor r.processor _ (eqb-true _ _ p.0) (later_key l.start r.start _ (omega (arith, long, ends))))
    ]

pub sorted_more : (e f : Entry) (es : List Entry) → is_lt (entry_cmp f e) ≡ false → IsSorted entry_cmp (f ∷ es) → (k : ℕ) (d : Entry) → 0 ≤ k →
    k + 1 < length (e ∷ (f ∷ es))
    → is_lt (entry_cmp (get_or (e ∷ (f ∷ es)) (k + 1) d) (get_or (e ∷ (f ∷ es)) k d)) ≡ false
sorted_more e f es h s zero d low high = h
sorted_more e f es h s (suc k) d low high =
    subst (λ w. is_lt (entry_cmp (get_or (e ∷ (f ∷ es)) w d) (get_or (f ∷ es) k d)) ≡ false) (sym (add-one (suc k)))
    (subst (λ w. is_lt (entry_cmp (get_or (f ∷ es) w d) (get_or (f ∷ es) k d)) ≡ false) (add-one k) (s k d (omega arith) (omega (arith, high))))

sorted_after : (s : SetContents) (l : Row) (at next : ℕ) (rows : List Row) → l.start < l.end → AllByRecursion (IsTraceRow s) rows → stand (Some l) rows ≡ true
    → IsSorted entry_cmp (entry_for l.processor l at ∷ entries_from processor_key next rows)
sorted_after s l at next [] long all h = λ k d low high. absurd (omega (arith, high))
sorted_after s l at next (r ∷ rows) long all h =
    let p = and_parts (comes_after (Some l) r) (stand (Some r) rows) h in
    sorted_more (entry_for l.processor l at) (entry_for r.processor r next) (entries_from processor_key (next + 1) rows) (in_order l r at next long p.0)
    (sorted_after s r next (next + 1) rows all.0.long all.1 p.1)

pub sorted_standing : (s : SetContents) (rows : List Row) → AllByRecursion (IsTraceRow s) rows → stand None rows ≡ true →
    IsSorted entry_cmp (entries_from processor_key 0 rows)
sorted_standing s [] all h = λ k d low high. absurd (omega (arith, high))
sorted_standing s (r ∷ rows) all h =
    let p = and_parts true (stand (Some r) rows) h in
    sorted_after s r 0 (0 + 1) rows all.0.long all.1 p.1

apart_after : (l r : Row) (at next : ℕ) → comes_after (Some l) r ≡ true → is_apart_from (Some (entry_for l.processor l at)) (entry_for r.processor r next)
    ≡ true
apart_after l r at next h =
    elim (or_cases (ltb l.processor r.processor) (eqb l.processor r.processor && leb l.end r.start) h) [
      | inl less ↦ (let a : l.processor < r.processor = ltb-true _ _ less in
          or_left _ _ (not_from_false _ (ne_eqb l.processor r.processor (λ e. omega (arith, e, a)))))
      | inr both ↦ or_right _ _ (and_parts (eqb l.processor r.processor) (leb l.end r.start) both).1
    ]

walk_from : (n at next : ℕ) (l : Row) (rows : List Row) → next + length rows ≤ n → stand (Some l) rows ≡ true → walk n (Some (entry_for l.processor l at))
    (entries_from processor_key next rows) ≡ true
walk_from n at next l [] few h = refl
walk_from n at next l (r ∷ rows) few h =
    let p = and_parts (comes_after (Some l) r) (stand (Some r) rows) h in
    cond-true _ _ _ (lt-ltb next n (omega (arith, few))) ∙ and_from _ _ (apart_after l r at next p.0) (walk_from n next (next + 1) r rows
    (omega (arith, few)) p.1)

pub walk_standing : (rows : List Row) → stand None rows ≡ true → walk (length rows) None (entries_from processor_key 0 rows) ≡ true
walk_standing [] h = refl
walk_standing (r ∷ rows) h =
    let p = and_parts true (stand (Some r) rows) h in
    let some : 0 < length (r ∷ rows) = omega arith in
    cond-true _ _ _ (lt-ltb 0 (length (r ∷ rows)) some) ∙ and_from _ _ refl (walk_from (length (r ∷ rows)) 0 (0 + 1) r rows (omega arith) p.1)

pub order_standing : (s : SetContents) (rows : List Row) → AllByRecursion (IsTraceRow s) rows → stand None rows ≡ true → IsOrder processor_key rows
    (entries_from processor_key 0 rows)
order_standing s rows all h = record { sorted = sorted_standing s rows all h; same = IsPermutation-refl _ }

pub hit_standing : (s : SetContents) (rows : List Row) → AllByRecursion (IsTraceRow s) rows → stand None rows ≡ true → IsFirstHit processor_key rows
    (length rows)
hit_standing s rows all h =
    let o = order_standing s rows all h in
    hit_from processor_key rows (entries_from processor_key 0 rows) (length rows) None refl o (walk_to _ _ (Rising-from_sorted _ o.sorted)
    (walk_standing rows h))

-- the places of one row more
pub place_more : (rows : List Row) (i : ℕ) (d : Row) → i < length rows → places (entries_from processor_key 0 (take i rows)) ++ i ∷ [] ≡ places
    (entries_from processor_key 0 (take (i + 1) rows))
place_more rows i d h =
    let at : 0 + i ≡ i = omega arith in
    sym (ap places (entries_more processor_key 0 rows i d h) ∙ (map-append (λ (e : Entry). e.place) _ _
    ∙ ap (λ p. places (entries_from processor_key 0 (take i rows)) ++ p ∷ []) at))

-- the place of one entry more
pub places_more : (es : List Entry) (i : ℕ) (d : Entry) (old new : List ℕ) → i < length es → old ≡ places (take i es) → new ≡ old ++ (get_or es i d).place
    ∷ [] → new ≡ places (take (i + 1) es)
places_more es i d old new h e f =
    f ∙ (ap (λ ps. ps ++ (get_or es i d).place ∷ []) e
    ∙ (sym (map-append (λ (e : Entry). e.place) (take i es) (get_or es i d ∷ [])) ∙ ap places (sym (take_more es i d h))))

-- one row more that comes after the last one
pub stand_more : (rows rest : List Row) (i : ℕ) (last : Option Row) (r d : Row) → i < length rows → r ≡ get_or rows i d → comes_after last r ≡ true
    → ((rest : List Row) → stand None (take i rows ++ rest) ≡ stand last rest) → stand None (take (i + 1) rows ++ rest) ≡ stand (Some r) rest
stand_more rows rest i last r d h is c inv =
    let more : take (i + 1) rows ++ rest ≡ take i rows ++ r ∷ rest = ap (λ w. w ++ rest) (take_more rows i d h)
    ∙ (append_assoc (take i rows) (get_or rows i d ∷ []) rest ∙ ap (λ x. take i rows ++ x ∷ rest) (sym is)) in
    ap (stand None) more ∙ (inv (r ∷ rest) ∙ ap (λ b. b && stand (Some r) rest) c)

-- the rows at the front stand
pub stands_front : (rows : List Row) (i : ℕ) (last : Option Row) → ((rest : List Row) → stand None (take i rows ++ rest) ≡ stand last rest) →
    stand None (take i rows) ≡ true
stands_front rows i last inv = ap (stand None) (sym (append-nil (take i rows))) ∙ (inv [] ∙ none last)
  where
    none : (last : Option Row) → stand last [] ≡ true
    none last = refl

-- where the next row doesn't come after the last one, the rows don't stand
pub stand_no_more : (rows : List Row) (i : ℕ) (last : Option Row) (r d : Row) → i < length rows → r ≡ get_or rows i d → comes_after last r ≡ false
    → ((rest : List Row) → stand None (take i rows ++ rest) ≡ stand last rest) → stand None rows ≡ false
stand_no_more rows i last r d h is c inv =
    let behind : drop i rows ≡ r ∷ drop (suc i) rows = drop-cons rows i d h ∙ ap (λ x. x ∷ drop (suc i) rows) (sym is) in
    ap (stand None) (sym (take-append-drop i rows)) ∙ (inv (drop i rows) ∙ (ap (stand last) behind ∙ ap (λ b. b && stand (Some r) (drop (suc i) rows)) c))

-- all rows stand exactly where those at the front are all
pub standing_all : (rows : List Row) (n all : ℕ) → all ≡ length rows → n ≤ length rows → stand None (take n rows) ≡ true →
    (n < length rows → stand None rows ≡ false) → eqb n all ≡ stand None rows
standing_all rows n all is within front stops = elim (cases_eq n all) [
  | inl same ↦ eq-eqb n all same ∙ (sym front ∙ ap (stand None) (take_all n rows (omega (arith, same, is))))
  | inr less ↦ ne_eqb n all less ∙ sym (stops (omega (arith, less, is, within)))
]

-- the rows at the front stand, and the next one overlaps one of them
pub hit_after : (s : SetContents) (rows : List Row) (i k : ℕ) → AllByRecursion (IsTraceRow s) rows → i < length rows → stand None (take i rows) ≡ true →
    k < i → hits processor_key rows i k ≡ true
    → IsFirstHit processor_key rows i
hit_after s rows i k all h st less hit =
    let front = hit_standing s (take i rows) (all_front s i rows all) st in
    let size : length (take i rows) ≡ i = length-take-le i rows (omega (arith, h)) in
    record {
      within = omega (arith, h);
      before = λ a b l m. (
          let there = front.before a b l (omega (arith, m, size)) in
          let one : row_at (take i rows) a ≡ row_at rows a = get_or-take i rows a _ (omega (arith, l, m)) in
          let two : row_at (take i rows) b ≡ row_at rows b = get_or-take i rows b _ m in
          subst (λ r. (same_key (processor_key (row_at rows a)) (processor_key r) && overlaps (row_at rows a) r) ≡ false) two
          (subst (λ r. (same_key (processor_key r) (processor_key (row_at (take i rows) b)) && overlaps r (row_at (take i rows) b)) ≡ false) one there));
      at = λ g. (k, less, hit);
    }
  where
    all_front : (s : SetContents) (i : ℕ) (rows : List Row) → AllByRecursion (IsTraceRow s) rows → AllByRecursion (IsTraceRow s) (take i rows)
    all_front s zero rows all = tt
    all_front s (suc i) [] all = tt
    all_front s (suc i) (r ∷ rows) all = (all.0, all_front s i rows all.1)
