-- The rows of a valid schedule, merged and read again, are a valid schedule.
use Rattle.std.proofs.Common.{suc, ℕ, ◌+◌, ◌*◌, ◌^◌, ◌<◌, ◌≤◌, ◌≡◌, inl, inr, eqb, Bool, true, false, List, [], ◌∷◌, ◌++◌, Some, length, map, sym}
use Rattle.std.proofs.Common.{refl, ap, ◌∙◌, subst, arith}
use Rattle.std.specs.Prelude.{slice_get}
use Rattle.std.specs.List.{AllByRecursion}
use Rattle.std.proofs.lemmas.Bool.{cases_Bool, and_parts, cond-true, cond-false, eqb-true}
use Rattle.sched_base.specs.declared.rows.Row.{Row}
use Rattle.sched_base.specs.Counting.{bit}
use Rattle.sched_base.specs.Rows.{is_of_task, overlap, task_ticks, DontOverlap, AllApart}
use Rattle.sched_base.specs.Sets.{SetContents, task_at}
use Rattle.sched_base.specs.Tables.{RowAt, IsTable, all_rows}
use Rattle.sched_base.specs.Valid.{IsValid, period_start, served}
use Rattle.sched_base.proofs.RowLemmas.{AllApart-by, task_ticks-append}
use Rattle.trace_verdict.proofs.EntryLemmas.{AllByRecursion-append, AllByRecursion-front, AllByRecursion-back}
use Rattle.row_totals.specs.Sums.{AreForward}
use Rattle.merged_rows.specs.Merging.{shown, lengthened, merge_onto, merged, merged_lanes}
use Rattle.merged_rows.proofs.MergeLemmas.{goes_on, shown_same, forward_merged, forward_lanes}
use Rattle.trace_check.specs.RoundTrip.{row_as_read}
use Rattle.trace_check.proofs.RowTripLemmas.{of_task_again}

-- ---- what holds of each row

-- the second row goes on from the first: on the same processor, from its end, under the same name
record GoesOn (r q : Row) : Type 0 where
  processor : q.processor ≡ r.processor
  joint : r.end ≡ q.start
  leaf : shown r.leaf ≡ shown q.leaf

-- what holds of a row and of one that goes on from it holds of the row that they make
abbrev Joins : (Row → Type 0) → Type 0
Joins P = (r q : Row) → GoesOn r q → P r → P q → P (lengthened r q.end)

-- all rows are of this processor
abbrev AreOn : ℕ → List Row → Type 0
AreOn p rows = AllByRecursion (λ r. r.processor ≡ p) rows

goes_on_by : (p : ℕ) (r q : Row) → r.processor ≡ p → q.processor ≡ p → goes_on r q ≡ true → GoesOn r q
goes_on_by p r q own next t =
    let parts = and_parts (eqb r.end q.start) (eqb (shown r.leaf) (shown q.leaf)) t in
    record { processor = next ∙ sym own; joint = eqb-true _ _ parts.0; leaf = eqb-true _ _ parts.1 }

onto_all : (P : Row → Type 0) (p : ℕ) (r : Row) (rows : List Row) → Joins P → r.processor ≡ p → AreOn p rows → P r → AllByRecursion P rows →
    AllByRecursion P (merge_onto r rows)
onto_all P p r [] joins on each own rest = (own, tt)
onto_all P p r (q ∷ rows) joins on each own rest =
    elim (cases_Bool (goes_on r q)) [
      | inl t ↦ (
          let e : merge_onto r (q ∷ rows) ≡ lengthened r q.end ∷ rows = cond-true _ _ _ t in
          subst (AllByRecursion P) (sym e) (joins r q (goes_on_by p r q on each.0 t) own rest.0, rest.1))
      | inr f ↦ (let e : merge_onto r (q ∷ rows) ≡ r ∷ (q ∷ rows) = cond-false _ _ _ f in subst (AllByRecursion P) (sym e) (own, rest))
    ]

merged_on : (p : ℕ) (rows : List Row) → AreOn p rows → AreOn p (merged rows)
merged_on p [] each = tt
merged_on p (r ∷ rows) each = onto_all (λ q. q.processor ≡ p) p r (merged rows) (λ a b goes own next. own) each.0 (merged_on p rows each.1) each.0
    (merged_on p rows each.1)

merged_all : (P : Row → Type 0) (p : ℕ) (rows : List Row) → Joins P → AreOn p rows → AllByRecursion P rows → AllByRecursion P (merged rows)
merged_all P p [] joins on each = tt
merged_all P p (r ∷ rows) joins on each = onto_all P p r (merged rows) joins on.0 (merged_on p rows on.1) each.0 (merged_all P p rows joins on.1 each.1)

-- each lane has the rows of one processor
abbrev AreLanes : List (List Row) → Type 0
AreLanes lanes = AllByRecursion (λ lane. (p : ℕ) × AreOn p lane) lanes

lanes_all : (P : Row → Type 0) (lanes : List (List Row)) → Joins P → AreLanes lanes → AllByRecursion P (all_rows lanes) → AllByRecursion P (merged_lanes lanes)
lanes_all P [] joins on each = tt
lanes_all P (lane ∷ lanes) joins on each =
    AllByRecursion-append P (merged lane) (merged_lanes lanes)
    (merged_all P on.0.0 lane joins on.0.1 (AllByRecursion-front P lane (all_rows lanes) each))
    (lanes_all P lanes joins on.1 (AllByRecursion-back P lane (all_rows lanes) each))

-- ---- what holds of any two rows

-- the same of two rows, whichever of them is made
record JoinsPairs (P : Row → Row → Type 0) : Type 0 where
  first : (x : Row) → Joins (λ r. P r x)
  second : (x : Row) → Joins (P x)

both_all : (P : Row → Row → Type 0) (r q : Row) (rows : List Row) → JoinsPairs P → GoesOn r q → AllByRecursion (P r) rows → AllByRecursion (P q) rows →
    AllByRecursion (P (lengthened r q.end)) rows
both_all P r q [] joins goes own next = tt
both_all P r q (x ∷ rows) joins goes own next = (joins.first x r q goes own.0 next.0, both_all P r q rows joins goes own.1 next.1)

onto_apart : (P : Row → Row → Type 0) (p : ℕ) (r : Row) (rows : List Row) → JoinsPairs P → r.processor ≡ p → AreOn p rows → AllByRecursion (P r) rows →
    AllApart P rows → AllApart P (merge_onto r rows)
onto_apart P p r [] joins on each own rest = (tt, tt)
onto_apart P p r (q ∷ rows) joins on each own rest =
    elim (cases_Bool (goes_on r q)) [
      | inl t ↦ (
          let e : merge_onto r (q ∷ rows) ≡ lengthened r q.end ∷ rows = cond-true _ _ _ t in
          subst (AllApart P) (sym e) (both_all P r q rows joins (goes_on_by p r q on each.0 t) own.1 rest.0, rest.1))
      | inr f ↦ (let e : merge_onto r (q ∷ rows) ≡ r ∷ (q ∷ rows) = cond-false _ _ _ f in subst (AllApart P) (sym e) (own, rest))
    ]

merged_apart : (P : Row → Row → Type 0) (p : ℕ) (rows : List Row) → JoinsPairs P → AreOn p rows → AllApart P rows → AllApart P (merged rows)
merged_apart P p [] joins on apart = tt
merged_apart P p (r ∷ rows) joins on apart =
    onto_apart P p r (merged rows) joins on.0 (merged_on p rows on.1) (merged_all (P r) p rows (joins.second r) on.1 apart.0) (merged_apart P p rows joins
    on.1 apart.1)

apart_front : (P : Row → Row → Type 0) (xs ys : List Row) → AllApart P (xs ++ ys) → AllApart P xs
apart_front P [] ys apart = tt
apart_front P (x ∷ xs) ys apart = (AllByRecursion-front (P x) xs ys apart.0, apart_front P xs ys apart.1)

apart_back : (P : Row → Row → Type 0) (xs ys : List Row) → AllApart P (xs ++ ys) → AllApart P ys
apart_back P [] ys apart = apart
apart_back P (x ∷ xs) ys apart = apart_back P xs ys apart.1

apart_across : (P : Row → Row → Type 0) (xs ys : List Row) → AllApart P (xs ++ ys) → AllByRecursion (λ x. AllByRecursion (P x) ys) xs
apart_across P [] ys apart = tt
apart_across P (x ∷ xs) ys apart = (AllByRecursion-back (P x) xs ys apart.0, apart_across P xs ys apart.1)

apart_append : (P : Row → Row → Type 0) (xs ys : List Row) → AllApart P xs → AllByRecursion (λ x. AllByRecursion (P x) ys) xs → AllApart P ys →
    AllApart P (xs ++ ys)
apart_append P [] ys front across back = back
apart_append P (x ∷ xs) ys front across back = (AllByRecursion-append (P x) xs ys front.0 across.0, apart_append P xs ys front.1 across.1 back)

each_by : {A : Type 0} (P Q : A → Type 0) (xs : List A) → ((x : A) → P x → Q x) → AllByRecursion P xs → AllByRecursion Q xs
each_by P Q [] by each = tt
each_by P Q (x ∷ xs) by each = (by x each.0, each_by P Q xs by each.1)

lanes_apart : (P : Row → Row → Type 0) (lanes : List (List Row)) → JoinsPairs P → AreLanes lanes → AllApart P (all_rows lanes) → AllApart P (merged_lanes lanes)
lanes_apart P [] joins on apart = tt
lanes_apart P (lane ∷ lanes) joins on apart =
    let rest = merged_lanes lanes in
    let across : AllByRecursion (λ x. AllByRecursion (P x) rest) lane =
    each_by (λ x. AllByRecursion (P x) (all_rows lanes)) (λ x. AllByRecursion (P x) rest) lane (λ x each. lanes_all (P x) lanes (joins.second x) on.1 each)
    (apart_across P lane (all_rows lanes) apart) in
    apart_append P (merged lane) rest
    (merged_apart P on.0.0 lane joins on.0.1 (apart_front P lane (all_rows lanes) apart))
    (merged_all (λ x. AllByRecursion (P x) rest) on.0.0 lane (λ r q goes own next. both_all P r q rest joins goes own next) on.0.1 across)
    (lanes_apart P lanes joins on.1 (apart_back P lane (all_rows lanes) apart))

-- ---- rows that don't overlap

-- both rows have some tick, and where this holds they don't overlap
record ApartWhere (Where : Row → Row → Type 0) (r q : Row) : Type 0 where
  long : r.start < r.end
  other : q.start < q.end
  apart : Where r q → DontOverlap r q

join_first : (r q x : Row) → GoesOn r q → r.start < r.end → q.start < q.end → x.start < x.end → DontOverlap r x → DontOverlap q x →
    DontOverlap (lengthened r q.end) x
join_first r q x goes long next some own later =
    let joint = goes.joint in
    elim own [
      | inl before ↦ elim later [ inl still ↦ inl still | inr after ↦ absurd (omega (arith, joint, before, after, some)) ]
      | inr after ↦ inr after
    ]

join_second : (r q x : Row) → GoesOn r q → r.start < r.end → q.start < q.end → x.start < x.end → DontOverlap x r → DontOverlap x q →
    DontOverlap x (lengthened r q.end)
join_second r q x goes long next some own later =
    let joint = goes.joint in
    elim own [
      | inl before ↦ inl before
      | inr after ↦ elim later [ inl before ↦ absurd (omega (arith, joint, before, after, some)) | inr still ↦ inr still ]
    ]

-- two rows to which it applies are one to which it applies
record Carries (Where : Row → Row → Type 0) : Type 0 where
  first : (r q x : Row) → GoesOn r q → Where (lengthened r q.end) x → Where r x × Where q x
  second : (r q x : Row) → GoesOn r q → Where x (lengthened r q.end) → Where x r × Where x q

joins_apart : (Where : Row → Row → Type 0) → Carries Where → JoinsPairs (ApartWhere Where)
joins_apart Where carries = record {
  first = λ x r q goes own next.
      let long = own.long in
      let joint = goes.joint in
      let more = next.long in
      record {
        long = omega (arith, long, joint, more);
        other = own.other;
        apart = λ here. let both = carries.first r q x goes here in join_first r q x goes own.long next.long own.other (own.apart both.0) (next.apart both.1);
      };
  second = λ x r q goes own next.
      let long = own.other in
      let joint = goes.joint in
      let more = next.other in
      record {
        long = own.long;
        other = omega (arith, long, joint, more);
        apart = λ here. let both = carries.second r q x goes here in join_second r q x goes own.other next.other own.long (own.apart both.0)
            (next.apart both.1);
      };
}

abbrev SameProcessor : Row → Row → Type 0
SameProcessor r q = r.processor ≡ q.processor

abbrev SameTask : Row → Row → Type 0
SameTask r q = (j : ℕ) × (is_of_task j r.leaf ≡ true) × (is_of_task j q.leaf ≡ true)

processor_carries : Carries SameProcessor
processor_carries = record {
  first = λ r q x goes here. (here, goes.processor ∙ here);
  second = λ r q x goes here. (here, here ∙ sym goes.processor);
}

task_carries : Carries SameTask
task_carries = record {
  first = λ r q x goes here. (here, (here.0, sym (shown_same here.0 r.leaf q.leaf goes.leaf) ∙ here.1, here.2));
  second = λ r q x goes here. (here, (here.0, here.1, sym (shown_same here.0 r.leaf q.leaf goes.leaf) ∙ here.2));
}

-- rows that each have some tick
abbrev AreLong : List Row → Type 0
AreLong rows = AllByRecursion (λ r. r.start < r.end) rows

long_beside : (Where : Row → Row → Type 0) (r : Row) (rows : List Row) → r.start < r.end → AreLong rows → AllByRecursion (λ q. Where r q → DontOverlap r q)
    rows → AllByRecursion (ApartWhere Where r) rows
long_beside Where r [] own long apart = tt
long_beside Where r (q ∷ rows) own long apart = (record { long = own; other = long.0; apart = apart.0 }, long_beside Where r rows own long.1 apart.1)

long_apart : (Where : Row → Row → Type 0) (rows : List Row) → AreLong rows → AllApart (λ r q. Where r q → DontOverlap r q) rows →
    AllApart (ApartWhere Where) rows
long_apart Where [] long apart = tt
long_apart Where (r ∷ rows) long apart = (long_beside Where r rows long.0 long.1 apart.0, long_apart Where rows long.1 apart.1)

-- what holds of rows holds of them as they are read, where it doesn't go by what is read otherwise
read_all : (P Q : Row → Type 0) (rows : List Row) → ((r : Row) → P r → Q (row_as_read r)) → AllByRecursion P rows → AllByRecursion Q (map row_as_read rows)
read_all P Q [] by each = tt
read_all P Q (r ∷ rows) by each = (by r each.0, read_all P Q rows by each.1)

read_apart : (P Q : Row → Row → Type 0) (rows : List Row) → ((r q : Row) → P r q → Q (row_as_read r) (row_as_read q)) → AllApart P rows →
    AllApart Q (map row_as_read rows)
read_apart P Q [] by apart = tt
read_apart P Q (r ∷ rows) by apart = (read_all (P r) (Q (row_as_read r)) rows (λ q. by r q) apart.0, read_apart P Q rows by apart.1)

-- ---- ticks

joined_overlap : (b : Bool) (s m e x y : ℕ) → s ≤ m → m ≤ e → bit b * overlap s e x y ≡ bit b * overlap s m x y + bit b * overlap m e x y
joined_overlap true s m e x y low high = omega (arith, low, high)
joined_overlap false s m e x y low high = omega (arith, low, high)

-- the ticks of a row for task j from x up to y
abbrev part_of : Row → ℕ → ℕ → ℕ → ℕ
part_of r j x y = bit (is_of_task j r.leaf) * overlap r.start r.end x y

ticks_onto : (r : Row) (rows : List Row) (j x y : ℕ) → r.start ≤ r.end → AreForward rows → task_ticks (merge_onto r rows) j x y ≡ part_of r j x
    y + task_ticks rows j x y
ticks_onto r [] j x y own rest = refl
ticks_onto r (q ∷ rows) j x y own rest =
    elim (cases_Bool (goes_on r q)) [
      | inl t ↦ (
          let parts = and_parts (eqb r.end q.start) (eqb (shown r.leaf) (shown q.leaf)) t in
          let joint : r.end ≡ q.start = eqb-true _ _ parts.0 in
          let same : is_of_task j q.leaf ≡ is_of_task j r.leaf = sym (shown_same j r.leaf q.leaf (eqb-true _ _ parts.1)) in
          let next : q.start ≤ q.end = rest.0 in
          let on : r.end ≤ q.end = omega (arith, joint, next) in
          let whole = joined_overlap (is_of_task j r.leaf) r.start r.end q.end x y own on in
          let second : part_of q j x y ≡ bit (is_of_task j r.leaf) * overlap r.end q.end x y =
          ap (λ b. bit b * overlap q.start q.end x y) same ∙ ap (λ n. bit (is_of_task j r.leaf) * overlap n q.end x y) (sym joint) in
          let e : task_ticks (merge_onto r (q ∷ rows)) j x y ≡ part_of (lengthened r q.end) j x y + task_ticks rows j x y = ap (λ l. task_ticks l j x y)
          (cond-true _ (lengthened r q.end ∷ rows) (r ∷ (q ∷ rows)) t) in
          omega (arith, e, whole, second))
      | inr f ↦ ap (λ l. task_ticks l j x y) (cond-false _ (lengthened r q.end ∷ rows) (r ∷ (q ∷ rows)) f)
    ]

ticks_merged : (rows : List Row) (j x y : ℕ) → AreForward rows → task_ticks (merged rows) j x y ≡ task_ticks rows j x y
ticks_merged [] j x y f = refl
ticks_merged (r ∷ rows) j x y f = ticks_onto r (merged rows) j x y f.0 (forward_merged rows f.1) ∙ ap (λ n. part_of r j x y + n) (ticks_merged rows j x y f.1)

ticks_lanes : (lanes : List (List Row)) (j x y : ℕ) → AllByRecursion AreForward lanes → task_ticks (merged_lanes lanes) j x y ≡ task_ticks (all_rows lanes)
    j x y
ticks_lanes [] j x y f = refl
ticks_lanes (lane ∷ lanes) j x y f =
    let first = task_ticks-append (merged lane) (merged_lanes lanes) j x y in
    let second = task_ticks-append lane (all_rows lanes) j x y in
    let one = ticks_merged lane j x y f.0 in
    let rest = ticks_lanes lanes j x y f.1 in
    omega (arith, first, second, one, rest)

ticks_read : (rows : List Row) (j x y : ℕ) → task_ticks (map row_as_read rows) j x y ≡ task_ticks rows j x y
ticks_read [] j x y = refl
ticks_read (r ∷ rows) j x y =
    ap (λ b. bit b * overlap r.start r.end x y + task_ticks (map row_as_read rows) j x y) (of_task_again j r.leaf) ∙ ap (λ n. part_of r j x y + n)
    (ticks_read rows j x y)

-- ---- a table

lane_on : (p : ℕ) (lane : List Row) → ((k : ℕ) (r : Row) → slice_get lane k ≡ Some r → r.processor ≡ p) → AreOn p lane
lane_on p [] own = tt
lane_on p (r ∷ rows) own = (own 0 r refl, lane_on p rows (λ k. own (suc k)))

lanes_on : (i : ℕ) (lanes : List (List Row)) → ((p k : ℕ) (r : Row) → RowAt lanes p k r → r.processor ≡ i + p) → AreLanes lanes
lanes_on i [] own = tt
lanes_on i (lane ∷ lanes) own = (
  (i + 0, lane_on (i + 0) lane (own 0)),
  lanes_on (i + 1) lanes (λ p k r at. own (suc p) k r at ∙ (let e : i + suc p ≡ i + 1 + p = omega arith in e)),
)

table_on : (lanes : List (List Row)) → IsTable lanes → AreLanes lanes
table_on lanes table = lanes_on 0 lanes (λ p k r at. table.own p k r at ∙ (let e : p ≡ 0 + p = omega arith in e))

long_lane : (lane : List Row) → ((k : ℕ) (r : Row) → slice_get lane k ≡ Some r → (r.start < r.end) × (r.end < 2 ^ 127)) → AreLong lane
long_lane [] forward = tt
long_lane (r ∷ rows) forward = ((forward 0 r refl).0, long_lane rows (λ k. forward (suc k)))

long_lanes : (lanes : List (List Row)) → ((p k : ℕ) (r : Row) → RowAt lanes p k r → (r.start < r.end) × (r.end < 2 ^ 127)) → AreLong (all_rows lanes)
long_lanes [] forward = tt
long_lanes (lane ∷ lanes) forward = AllByRecursion-append (λ r. r.start < r.end) lane (all_rows lanes) (long_lane lane (forward 0))
    (long_lanes lanes (λ p. forward (suc p)))

module _ (s : SetContents) (scale horizon stop : ℕ) (lanes : List (List Row)) (table : IsTable lanes) (valid : IsValid s scale horizon stop
    (all_rows lanes)) where
  on : AreLanes lanes
  on = table_on lanes table

  long : AreLong (all_rows lanes)
  long = long_lanes lanes table.forward

  same_served : (j k : ℕ) → served scale s (map row_as_read (merged_lanes lanes)) j k ≡ served scale s (all_rows lanes) j k
  same_served j k =
      let x = period_start scale (task_at s.tasks j) k in
      let y = period_start scale (task_at s.tasks j) (k + 1) in
      ticks_read (merged_lanes lanes) j x y ∙ ticks_lanes lanes j x y (forward_lanes lanes table)

  one_processor : AllApart (ApartWhere SameProcessor) (merged_lanes lanes)
  one_processor = lanes_apart (ApartWhere SameProcessor) lanes (joins_apart SameProcessor processor_carries) on (long_apart SameProcessor (all_rows lanes)
      long valid.processors_apart)

  one_task : AllApart (ApartWhere SameTask) (merged_lanes lanes)
  one_task =
      let apart : AllApart (λ r q. SameTask r q → DontOverlap r q) (all_rows lanes) =
      AllApart-by (λ r q. (j : ℕ) → is_of_task j r.leaf ≡ true → is_of_task j q.leaf ≡ true → DontOverlap r q) (λ r q. SameTask r q → DontOverlap r q)
      (all_rows lanes) (λ r q own here. own here.0 here.1 here.2) valid.tasks_apart in
      lanes_apart (ApartWhere SameTask) lanes (joins_apart SameTask task_carries) on (long_apart SameTask (all_rows lanes) long apart)

  pub merged_valid : IsValid s scale horizon stop (map row_as_read (merged_lanes lanes))
  merged_valid = record {
    bounded =
        let P : Row → Type 0 = λ r. (r.processor < s.processors) × (r.end ≤ stop) in
        read_all P P (merged_lanes lanes) (λ r own. own) (lanes_all P lanes (λ r q goes own next. (own.0, next.1)) on valid.bounded);
    processors_apart = read_apart (ApartWhere SameProcessor) (λ r q. r.processor ≡ q.processor → DontOverlap r q) (merged_lanes lanes)
        (λ r q own. own.apart) one_processor;
    tasks_apart =
        read_apart (ApartWhere SameTask) (λ r q. (j : ℕ) → is_of_task j r.leaf ≡ true → is_of_task j q.leaf ≡ true → DontOverlap r q) (merged_lanes lanes)
        (λ r q own j is is'. own.apart (j, sym (of_task_again j r.leaf) ∙ is, sym (of_task_again j q.leaf) ∙ is')) one_task;
    full = λ j k within ended. same_served j k ∙ valid.full j k within ended;
    no_more = λ j k within. let e = same_served j k in let most = valid.no_more j k within in omega (arith, e, most);
    released =
        let P : Row → Type 0 = λ r. (j : ℕ) → j < length s.tasks → is_of_task j r.leaf ≡ true → (task_at s.tasks j).offset * scale ≤ r.start in
        read_all P P (merged_lanes lanes) (λ r own j within is. own j within (sym (of_task_again j r.leaf) ∙ is))
        (lanes_all P lanes (λ r q goes own next. own) on valid.released);
  }
