-- What is decided over rows: whether they stand again, and from where on they come again.
use Rattle.std.proofs.Common.{Bool, List, [], ◌∷◌, length, ap, arith, cond, inl, inr, refl, subst, sym, true, false, zero, suc, eqb, eq-eqb}
use Rattle.std.proofs.Common.{ℕ, ◌+◌, ◌-◌, ◌*◌, ◌<◌, ◌∙◌, ◌≡◌, ◌≤◌, ◌↔◌}
use Rattle.std.specs.Prelude.{nat_le}
use Rattle.std.proofs.lemmas.Bool.{and_from, and_parts, cases_Bool, cond-true, cond-false, eqb-true, le-leb, leb-true}
use Rattle.std.specs.Int.{◌∣◌}
use Rattle.std.proofs.lemmas.Nat.Gcd.{dvd-zero}
use Rattle.std.specs.List.{AllByRecursion, list_all, range_with_len}
use Rattle.sched_base.specs.declared.rows.Row.{Row}
use Rattle.sched_base.specs.declared.sets.Task as declared
use Rattle.sched_base.specs.Scale.{IsScale, PeriodsDivide}
use Rattle.sched_base.specs.Sets.{SetContents, task_at}
use Rattle.sched_base.specs.Valid.{IsValid}
use Rattle.repeat_laws.specs.Repeats.{CanRepeat, ComesAgain, StandsAgain, can_repeat, ends_again, given, given_again, open_since}
use Rattle.repeat_laws.specs.Repeats.{repeat_unit, repeated_from, stands_again}
use Rattle.repeat_laws.proofs.CanRepeats.{can_repeat_true, true_can_repeat}
use Rattle.repeat_laws.proofs.Repeating.{all_by_number, of_task}
use Rattle.repeat_laws.proofs.RepeatingFrom.{closed_again, repeated_from_valid}

-- a test that each number of a range passes
pub all_range : (test : ℕ → Bool) (a n : ℕ) → ((i : ℕ) → i < n → test (a + i) ≡ true) → list_all test (range_with_len a n) ≡ true
all_range test a zero each = refl
all_range test a (suc n) each =
    let here : a + 0 ≡ a = omega arith in
    and_from (test a) (list_all test (range_with_len (a + 1) n)) (sym (ap test here) ∙ each 0 (omega arith))
    (all_range test (a + 1) n (λ i low. let e : a + suc i ≡ a + 1 + i = omega arith in sym (ap test e) ∙ each (suc i) (omega (arith, low))))

pub each_range : (test : ℕ → Bool) (a n : ℕ) → list_all test (range_with_len a n) ≡ true → (i : ℕ) → i < n → test (a + i) ≡ true
each_range test a zero all i low = absurd (omega (arith, low))
each_range test a (suc n) all zero low =
    let e : a + 0 ≡ a = omega arith in
    ap test e ∙ (and_parts (test a) (list_all test (range_with_len (a + 1) n)) all).0
each_range test a (suc n) all (suc i) low =
    let e : a + suc i ≡ a + 1 + i = omega arith in
    ap test e ∙ each_range test (a + 1) n (and_parts (test a) (list_all test (range_with_len (a + 1) n)) all).1 i (omega (arith, low))

module _ (s : SetContents) (scale from units : ℕ) (rows : List Row) where
  -- what the test says of one task
  abbrev IsGivenAgain : ℕ → Type 0
  IsGivenAgain j =
      ((task_at s.tasks j).offset ≤ from)
      × (given scale rows j (open_since from (task_at s.tasks j) + units) (from + units) ≡ given scale rows j (open_since from (task_at s.tasks j)) from)

  pub one_given : (j : ℕ) → given_again s scale from units rows j ≡ true → IsGivenAgain j
  one_given j told =
      let after = given scale rows j (open_since from (task_at s.tasks j) + units) (from + units) in
      let before = given scale rows j (open_since from (task_at s.tasks j)) from in
      let both = and_parts (nat_le (task_at s.tasks j).offset from) (eqb after before) told in
      (leb-true (task_at s.tasks j).offset from both.0, eqb-true after before both.1)

  pub one_tested : (j : ℕ) → IsGivenAgain j → given_again s scale from units rows j ≡ true
  one_tested j is =
      let after = given scale rows j (open_since from (task_at s.tasks j) + units) (from + units) in
      let before = given scale rows j (open_since from (task_at s.tasks j)) from in
      and_from (nat_le (task_at s.tasks j).offset from) (eqb after before) (le-leb (task_at s.tasks j).offset from is.0) (eq-eqb after before is.1)

  each_given : stands_again s scale from units rows ≡ true → (j : ℕ) → j < length s.tasks → IsGivenAgain j
  each_given told j low =
      let e : 0 + j ≡ j = omega arith in
      one_given j (sym (ap (given_again s scale from units rows) e) ∙ each_range (given_again s scale from units rows) 0 (length s.tasks) told j low)

  pub tested : ((j : ℕ) → j < length s.tasks → IsGivenAgain j) → stands_again s scale from units rows ≡ true
  tested each = all_range (given_again s scale from units rows) 0 (length s.tasks)
      (λ i low. let e : 0 + i ≡ i = omega arith in ap (given_again s scale from units rows) e ∙ one_tested i (each i low))

  stands_by : 1 ≤ units → PeriodsDivide s.tasks units → stands_again s scale from units rows ≡ true → StandsAgain s scale from units rows
  stands_by some whole told = record {
    some = some;
    released = all_by_number (λ t. t.offset ≤ from) s.tasks (λ j low. (each_given told j low).0);
    whole_periods = whole;
    same = λ j low. (each_given told j low).1;
  }

  tested_by : StandsAgain s scale from units rows → stands_again s scale from units rows ≡ true
  tested_by again = tested (λ j low. (of_task (λ t. t.offset ≤ from) s.tasks j again.released low, again.same j low))

-- the test says just that
pub decided : (s : SetContents) (scale from : ℕ) (rows : List Row) → IsScale s.tasks scale → (stands_again s scale from scale rows ≡ true) ↔ StandsAgain s
    scale from scale rows
decided s scale from rows is = (stands_by s scale from scale rows is.positive is.divided, tested_by s scale from scale rows)

-- rows that stand at the horizon as at a unit before it come again from there
again_by : (s : SetContents) (scale from : ℕ) (rows : List Row) → from ≤ s.horizon → StandsAgain s scale from (s.horizon - from) rows
    → IsValid s scale (s.horizon * scale) (s.horizon * scale) rows → ComesAgain s scale from rows
again_by s scale from rows low again valid n =
    let e : from + (s.horizon - from) ≡ s.horizon = omega (arith, low) in
    let here : IsValid s scale ((from + (s.horizon - from)) * scale) ((from + (s.horizon - from)) * scale) rows =
    subst (λ (x : ℕ). IsValid s scale (x * scale) (x * scale) rows) (sym e) valid in
    subst (λ (x : ℕ). IsValid s scale (x * scale + n * ((s.horizon - from) * scale)) (x * scale + n * ((s.horizon - from) * scale))
    (repeated_from (from * scale) ((s.horizon - from) * scale) rows n)) e
    (repeated_from_valid s scale from (s.horizon - from) rows again here n)

begins_there : (tasks : List declared.Task) → AllByRecursion (λ t. t.offset ≡ 0) tasks → AllByRecursion (λ t. t.offset ≤ 0) tasks
begins_there [] none = tt
begins_there (t ∷ tasks) none = (let e = none.0 in omega (arith, e), begins_there tasks none.1)

-- a set whose schedules can be repeated stands at its horizon as at its start
start_again : (s : SetContents) (scale : ℕ) (rows : List Row) → 1 ≤ s.horizon → CanRepeat s → StandsAgain s scale 0 s.horizon rows
start_again s scale rows some can = closed_again s scale 0 s.horizon rows
    (record {
      released = begins_there s.tasks can.no_offset;
      begins = all_by_number (λ t. t.period ∣ 0 - t.offset) s.tasks (λ j low. let z : 0 - (task_at s.tasks j).offset ≡ 0 = omega arith in
          subst (λ (x : ℕ). (task_at s.tasks j).period ∣ x) (sym z) (dvd-zero (task_at s.tasks j).period));
    })
    some can.whole_periods

-- ---- the unit that is decided

pub unit_start : (s : SetContents) (scale : ℕ) (rows : List Row) → can_repeat s ≡ true → repeat_unit s scale rows ≡ 0
unfolding repeat_unit
unit_start s scale rows can = cond-true (can_repeat s) 0 (cond (ends_again s scale rows) (s.horizon - scale) s.horizon) can

pub unit_before : (s : SetContents) (scale : ℕ) (rows : List Row) → can_repeat s ≡ false → ends_again s scale rows ≡ true →
    repeat_unit s scale rows ≡ s.horizon - scale
unfolding repeat_unit
unit_before s scale rows cannot ends =
    cond-false (can_repeat s) 0 (cond (ends_again s scale rows) (s.horizon - scale) s.horizon) cannot ∙ cond-true (ends_again s scale rows)
    (s.horizon - scale) s.horizon ends

pub unit_none : (s : SetContents) (scale : ℕ) (rows : List Row) → can_repeat s ≡ false → ends_again s scale rows ≡ false → repeat_unit s scale rows ≡ s.horizon
unfolding repeat_unit
unit_none s scale rows cannot other =
    cond-false (can_repeat s) 0 (cond (ends_again s scale rows) (s.horizon - scale) s.horizon) cannot ∙ cond-false (ends_again s scale rows)
    (s.horizon - scale) s.horizon other

-- it isn't behind the horizon
pub unit_within : (s : SetContents) (scale : ℕ) (rows : List Row) → repeat_unit s scale rows ≤ s.horizon
unit_within s scale rows = elim (cases_Bool (can_repeat s)) [
  | inl can ↦ (let e = unit_start s scale rows can in omega (arith, e))
  | inr cannot ↦ elim (cases_Bool (ends_again s scale rows)) [
    | inl ends ↦ (let e = unit_before s scale rows cannot ends in omega (arith, e))
    | inr other ↦ (let e = unit_none s scale rows cannot other in omega (arith, e))
  ]
]

pub from_start : (s : SetContents) (scale : ℕ) (rows : List Row) → CanRepeat s → repeat_unit s scale rows ≡ 0
from_start s scale rows can = unit_start s scale rows (can_repeat_true s can)

comes_by : (s : SetContents) (scale : ℕ) (rows : List Row) → IsScale s.tasks scale → IsValid s scale (s.horizon * scale) (s.horizon * scale) rows
    → ends_again s scale rows ≡ true → ComesAgain s scale (s.horizon - scale) rows
comes_by s scale rows is valid ends =
    let both = and_parts (nat_le scale s.horizon) (stands_again s scale (s.horizon - scale) scale rows) ends in
    let low : scale ≤ s.horizon = leb-true scale s.horizon both.0 in
    let stands : StandsAgain s scale (s.horizon - scale) scale rows = stands_by s scale (s.horizon - scale) scale rows is.positive is.divided both.1 in
    let e : scale ≡ s.horizon - (s.horizon - scale) = omega (arith, low) in
    again_by s scale (s.horizon - scale) rows (omega arith) (subst (λ (x : ℕ). StandsAgain s scale (s.horizon - scale) x rows) e stands) valid

-- from there the rows come again
pub comes_again : (s : SetContents) (scale : ℕ) (rows : List Row) → IsScale s.tasks scale → IsValid s scale (s.horizon * scale) (s.horizon * scale) rows
    → repeat_unit s scale rows < s.horizon → ComesAgain s scale (repeat_unit s scale rows) rows
comes_again s scale rows is valid before = elim (cases_Bool (can_repeat s)) [
  | inl can ↦
      subst (λ (x : ℕ). ComesAgain s scale x rows) (sym (unit_start s scale rows can))
      (let e : s.horizon ≡ s.horizon - 0 = omega arith in
      again_by s scale 0 rows (omega arith)
      (subst (λ (x : ℕ). StandsAgain s scale 0 x rows) e (start_again s scale rows (omega (arith, before)) (true_can_repeat s can))) valid)
  | inr cannot ↦ elim (cases_Bool (ends_again s scale rows)) [
    | inl ends ↦ subst (λ (x : ℕ). ComesAgain s scale x rows) (sym (unit_before s scale rows cannot ends)) (comes_by s scale rows is valid ends)
    | inr other ↦ absurd (let e = unit_none s scale rows cannot other in omega (arith, e, before))
  ]
]
