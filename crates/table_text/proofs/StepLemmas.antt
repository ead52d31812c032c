-- The step of rows is their greatest common divisor.
use Rattle.std.proofs.Common.{Bool, List, [], ◌∷◌, ◌++◌, ap, arith, inl, inr, refl, sym, true, false, zero, suc, eqb, eq-eqb}
use Rattle.std.proofs.Common.{ℕ, ◌*◌, ◌/◌, ◌%◌, ◌<◌, ◌∙◌, ◌≡◌, ◌≤◌, ◌&&◌}
use Rattle.std.specs.Int.{◌∣◌, IsGcd}
use Rattle.std.specs.List.{list_all}
use Rattle.std.proofs.Math.Nat.{div-mul_cancel, one-dvd, pos_of_dvd_of_pos}
use Rattle.std.proofs.lemmas.Bool.{and_from, and_parts, cases_Bool, cases_lt, cond-true, cond-false, eqb-true}
use Rattle.std.proofs.lemmas.Nat.Gcd.{dvd_of_mod-eq-zero, dvd_refl, dvd_trans, le_of_dvd, mod-eq-zero_of_dvd}
use Rattle.sched_base.specs.declared.rows.Row.{Row}
use Rattle.table_text.specs.Steps.{AreWhole, DividesRows, IsStep, greatest, step_of}

-- ---- the greatest number that passes a test

greatest_is : (test : ℕ → Bool) (n g : ℕ) → 1 ≤ g → g ≤ n → test g ≡ true → ((d : ℕ) → g < d → d ≤ n → test d ≡ false) → greatest test n ≡ g
greatest_is test zero g some low passes others = absurd (omega (arith, some, low))
greatest_is test (suc n) g some low passes others = elim (cases_lt g (suc n)) [
  | inl below ↦
      cond-false (test (suc n)) (suc n) (greatest test n) (others (suc n) below (omega arith))
      ∙ greatest_is test n g some (omega (arith, below)) passes (λ d above within. others d above (omega (arith, within)))
  | inr top ↦
      (let same : suc n ≡ g = omega (arith, low, top) in
      cond-true (test (suc n)) (suc n) (greatest test n) (ap test same ∙ passes) ∙ same)
]

-- where a number passes, so does the greatest
greatest_passes : (test : ℕ → Bool) (n w : ℕ) → 1 ≤ w → w ≤ n → test w ≡ true → (test (greatest test n) ≡ true) × (w ≤ greatest test n)
greatest_passes test zero w some low passes = absurd (omega (arith, some, low))
greatest_passes test (suc n) w some low passes = elim (cases_Bool (test (suc n))) [
  | inl here ↦
      (let is = cond-true (test (suc n)) (suc n) (greatest test n) here in
      (ap test is ∙ here, omega (arith, is, low)))
  | inr off ↦ elim (cases_lt w (suc n)) [
    | inl below ↦
        (let is = cond-false (test (suc n)) (suc n) (greatest test n) off in
        let rest = greatest_passes test n w some (omega (arith, below)) passes in
        let most = rest.1 in
        (ap test is ∙ rest.0, omega (arith, is, most)))
    | inr top ↦ absurd (let same : w ≡ suc n = omega (arith, low, top) in let bad : true ≡ false = sym passes ∙ (ap test same ∙ off) in cc)
  ]
]

-- ---- what the test says

abbrev row_test : ℕ → Row → Bool
row_test d r = eqb (r.start % d) 0 && eqb (r.end % d) 0

rows_divided : (d : ℕ) (rows : List Row) → list_all (row_test d) rows ≡ true → DividesRows d rows
rows_divided d [] all = tt
rows_divided d (r ∷ rows) all =
    let both = and_parts (row_test d r) (list_all (row_test d) rows) all in
    let here = and_parts (eqb (r.start % d) 0) (eqb (r.end % d) 0) both.0 in
    ((dvd_of_mod-eq-zero d (eqb-true (r.start % d) 0 here.0), dvd_of_mod-eq-zero d (eqb-true (r.end % d) 0 here.1)), rows_divided d rows both.1)

rows_pass : (d : ℕ) (rows : List Row) → DividesRows d rows → list_all (row_test d) rows ≡ true
rows_pass d [] all = refl
rows_pass d (r ∷ rows) all =
    and_from (row_test d r) (list_all (row_test d) rows)
    (and_from (eqb (r.start % d) 0) (eqb (r.end % d) 0) (eq-eqb (r.start % d) 0 (mod-eq-zero_of_dvd d all.0.0))
    (eq-eqb (r.end % d) 0 (mod-eq-zero_of_dvd d all.0.1)))
    (rows_pass d rows all.1)

-- the test by which a step is found
abbrev divides_each : ℕ → List Row → ℕ → Bool
divides_each ticks rows d = eqb (ticks % d) 0 && list_all (row_test d) rows

divided : (ticks : ℕ) (rows : List Row) (d : ℕ) → divides_each ticks rows d ≡ true → (d ∣ ticks) × DividesRows d rows
divided ticks rows d told =
    let both = and_parts (eqb (ticks % d) 0) (list_all (row_test d) rows) told in
    (dvd_of_mod-eq-zero d (eqb-true (ticks % d) 0 both.0), rows_divided d rows both.1)

passes_by : (ticks : ℕ) (rows : List Row) (d : ℕ) → d ∣ ticks → DividesRows d rows → divides_each ticks rows d ≡ true
passes_by ticks rows d all each =
    and_from (eqb (ticks % d) 0) (list_all (row_test d) rows) (eq-eqb (ticks % d) 0 (mod-eq-zero_of_dvd d all)) (rows_pass d rows each)

-- ---- the step

pub step_is : (ticks : ℕ) (rows : List Row) (g : ℕ) → 1 ≤ ticks → IsStep ticks rows g → (step_of ticks rows ≡ g) × (1 ≤ g)
unfolding step_of
step_is ticks rows g some is =
    let low : g ≤ ticks = le_of_dvd some is.divides in
    let positive : 1 ≤ g = pos_of_dvd_of_pos is.divides some in (
      greatest_is (divides_each ticks rows) ticks g positive low (passes_by ticks rows g is.divides is.divides_rows)
          (λ d above within. elim (cases_Bool (divides_each ticks rows d)) [
            | inr fails ↦ fails
            | inl told ↦ absurd (
                let both = divided ticks rows d told in
                let most : d ≤ g = le_of_dvd positive (is.greatest d both.0 both.1) in
                omega (arith, most, above))
          ]),
      positive,
    )

one_divides_rows : (rows : List Row) → DividesRows 1 rows
one_divides_rows [] = tt
one_divides_rows (r ∷ rows) = ((one-dvd r.start, one-dvd r.end), one_divides_rows rows)

step_passes : (ticks : ℕ) (rows : List Row) → 1 ≤ ticks → (d : ℕ) → 1 ≤ d → d ∣ ticks → DividesRows d rows
    → ((step_of ticks rows ∣ ticks) × DividesRows (step_of ticks rows) rows) × (d ≤ step_of ticks rows)
unfolding step_of
step_passes ticks rows some d positive all each =
    let found = greatest_passes (divides_each ticks rows) ticks d positive (le_of_dvd some all) (passes_by ticks rows d all each) in
    (divided ticks rows (step_of ticks rows) found.0, found.1)

step_divides : (ticks : ℕ) (rows : List Row) → 1 ≤ ticks → (step_of ticks rows ∣ ticks) × DividesRows (step_of ticks rows) rows
step_divides ticks rows some = (step_passes ticks rows some 1 (omega arith) (one-dvd ticks) (one_divides_rows rows)).0

whole_by : (step : ℕ) (rows : List Row) → DividesRows step rows → AreWhole step rows
whole_by step [] all = tt
whole_by step (r ∷ rows) all = ((div-mul_cancel step all.0.0, div-mul_cancel step all.0.1), whole_by step rows all.1)

pub rows_whole : (ticks : ℕ) (rows : List Row) → 1 ≤ ticks → AreWhole (step_of ticks rows) rows
rows_whole ticks rows some = whole_by (step_of ticks rows) rows (step_divides ticks rows some).1

pub ticks_whole : (ticks : ℕ) (rows : List Row) → 1 ≤ ticks → ticks / step_of ticks rows * step_of ticks rows ≡ ticks
ticks_whole ticks rows some = div-mul_cancel (step_of ticks rows) (step_divides ticks rows some).0

pub step_greatest : (ticks : ℕ) (rows : List Row) → 1 ≤ ticks → (d : ℕ) → d ∣ ticks → DividesRows d rows → d ≤ step_of ticks rows
step_greatest ticks rows some d all each = elim (cases_lt 0 d) [
  | inl positive ↦ (step_passes ticks rows some d positive all each).1
  | inr none ↦ omega (arith, none)
]

-- ---- rows one after the other

pub IsStep-none : (n : ℕ) → IsStep n [] n
IsStep-none n = record { divides = dvd_refl n; divides_rows = tt; greatest = λ d all each. all }

divides_first : (d : ℕ) (xs ys : List Row) → DividesRows d (xs ++ ys) → DividesRows d xs × DividesRows d ys
divides_first d [] ys all = (tt, all)
divides_first d (x ∷ xs) ys all = let rest = divides_first d xs ys all.1 in ((all.0, rest.0), rest.1)

divides_both : (d : ℕ) (xs ys : List Row) → DividesRows d xs → DividesRows d ys → DividesRows d (xs ++ ys)
divides_both d [] ys a b = b
divides_both d (x ∷ xs) ys a b = (a.0, divides_both d xs ys a.1 b)

divides_through : (d g : ℕ) (rows : List Row) → d ∣ g → DividesRows g rows → DividesRows d rows
divides_through d g [] by all = tt
divides_through d g (r ∷ rows) by all = ((dvd_trans d by all.0.0, dvd_trans d by all.0.1), divides_through d g rows by all.1)

pub IsStep-then : (n g h : ℕ) (xs ys : List Row) → IsStep n xs g → IsStep g ys h → IsStep n (xs ++ ys) h
IsStep-then n g h xs ys first second = record {
  divides = dvd_trans h second.divides first.divides;
  divides_rows = divides_both h xs ys (divides_through h g xs second.divides first.divides_rows) second.divides_rows;
  greatest = λ d all each. let both = divides_first d xs ys each in second.greatest d (first.greatest d all both.0) both.1;
}

-- one row
pub IsStep-row : (n g h : ℕ) (r : Row) → IsGcd r.start n g → IsGcd r.end g h → IsStep n (r ∷ []) h
IsStep-row n g h r first second = record {
  divides = dvd_trans h second.1 first.1;
  divides_rows = ((dvd_trans h second.1 first.0, second.0), tt);
  greatest = λ d all each. second.2 d each.0.1 (first.2 d each.0.0 all);
}
