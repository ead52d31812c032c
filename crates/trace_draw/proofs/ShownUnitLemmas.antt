-- Which window is shown: fewer rows reach into fewer units, so halving finds the most units.
use Rattle.std.proofs.Common.{ℕ, zero, suc, ◌+◌, ◌-◌, ◌*◌, ◌<◌, ◌≤◌, ◌≡◌, ◌⊎◌, inl, inr, Bool, true, false, ltb, List, [], ◌∷◌, filter, length, sym}
use Rattle.std.proofs.Common.{ap, ◌∙◌, arith}
use Rattle.std.proofs.Math.Nat.{mul-le-mul_right}
use Rattle.std.proofs.lemmas.Bool.{cases_Bool, cases_lt, both_ways, and_parts, and_from, cond-true, cond-false, leb-true, le-leb, ltb-true, lt-ltb}
use Rattle.std.proofs.lemmas.Bool.{false_from_ne_true}
use Rattle.sched_base.specs.declared.rows.Row.{Row}
use Rattle.trace_check.specs.Traces.{Trace}
use Rattle.trace_draw.specs.declared.shown_units.ShownUnits.{ShownUnits}
use Rattle.command_words.specs.declared.asking.Asked.{Asked}
use Rattle.trace_draw.specs.ShownUnits.{first_tick, end_tick, reaches, window_of_units, has_few, most_rows, greatest_passing}

-- of two tests the one that passes less counts no more
pub fewer : {X : Type 0} (p q : X → Bool) → ((x : X) → p x ≡ true → q x ≡ true) → (xs : List X) → length (filter p xs) ≤ length (filter q xs)
fewer p q less [] = omega arith
fewer p q less (x ∷ xs) =
    let rest = fewer p q less xs in
    elim (cases_Bool (p x)) [
      | inl t ↦ (
          let here = ap length (cond-true (p x) (x ∷ filter p xs) (filter p xs) t) in
          let there = ap length (cond-true (q x) (x ∷ filter q xs) (filter q xs) (less x t)) in
          omega (arith, here, there, rest))
      | inr f ↦ (
          let here = ap length (cond-false (p x) (x ∷ filter p xs) (filter p xs) f) in
          elim (cases_Bool (q x)) [
            | inl t ↦ (let there = ap length (cond-true (q x) (x ∷ filter q xs) (filter q xs) t) in omega (arith, here, there, rest))
            | inr g ↦ (let there = ap length (cond-false (q x) (x ∷ filter q xs) (filter q xs) g) in omega (arith, here, there, rest))
          ])
    ]

reaches_more : (t : Trace) (a : Asked) (m n : ℕ) → m ≤ n → (r : Row) → reaches (window_of_units t a m) r ≡ true → reaches (window_of_units t a n) r ≡ true
reaches_more t a m n le r h =
    let w : ShownUnits = window_of_units t a m in
    let v : ShownUnits = window_of_units t a n in
    let parts = and_parts (ltb r.start (end_tick w)) (ltb (first_tick w) r.end) h in
    let early : r.start < end_tick w = ltb-true _ _ parts.0 in
    let wider : (w.from + m) * t.scale ≤ (w.from + n) * t.scale = mul-le-mul_right t.scale (omega (arith, le)) in
    and_from (ltb r.start (end_tick v)) (ltb (first_tick v) r.end) (lt-ltb r.start (end_tick v) (omega (arith, early, wider))) parts.1

-- where few rows reach into some units, few reach into less
pub few_in_less : (t : Trace) (a : Asked) (m n : ℕ) → m ≤ n → has_few t a n ≡ true → has_few t a m ≡ true
few_in_less t a m n le h =
    let more : length (filter (reaches (window_of_units t a n)) t.rows) ≤ most_rows a.units = leb-true _ _ h in
    let less = fewer (reaches (window_of_units t a m)) (reaches (window_of_units t a n)) (reaches_more t a m n le) t.rows in
    le-leb _ _ (omega (arith, more, less))

-- the units from this number on don't pass
pub none_from : (t : Trace) (a : Asked) (m : ℕ) → has_few t a m ≡ false → (n : ℕ) → m ≤ n → has_few t a n ≡ false
none_from t a m fails n le = false_from_ne_true _ (λ passes. both_ways _ fails (few_in_less t a m n le passes))

-- the greatest that passes lies below those that don't
pub greatest_below : (test : ℕ → Bool) (high middle : ℕ) → 1 ≤ middle → middle ≤ high + 1 → ((n : ℕ) → middle ≤ n → test n ≡ false) →
    greatest_passing test high ≡ greatest_passing test (middle - 1)
greatest_below test zero middle some within none = (let low : middle - 1 ≡ 0 = omega (arith, some, within) in ap (greatest_passing test) (sym low))
greatest_below test (suc high) middle some within none =
    elim (cases_lt high (middle - 1)) [
      | inl above ↦ (let same : suc high ≡ middle - 1 = omega (arith, above, within, some) in ap (greatest_passing test) same)
      | inr below ↦ (
          let past : test (suc high) ≡ false = none (suc high) (omega (arith, below, some)) in
          cond-false (test (suc high)) (suc high) (greatest_passing test high) past ∙ greatest_below test high middle some (omega (arith, below, some)) none)
    ]

-- a number that passes, or 1, is the greatest up to itself
pub greatest_at : (test : ℕ → Bool) (n : ℕ) → (n ≡ 1) ⊎ (test n ≡ true) → 1 ≤ n → greatest_passing test n ≡ n
greatest_at test zero passes some = absurd (omega (arith, some))
greatest_at test (suc n) passes some =
    elim (cases_Bool (test (suc n))) [
      | inl t ↦ cond-true (test (suc n)) (suc n) (greatest_passing test n) t
      | inr f ↦ (elim passes [
        | inr t ↦ absurd (both_ways _ f t)
        | inl one ↦ (
            let none : n ≡ 0 = omega (arith, one) in
            cond-false (test (suc n)) (suc n) (greatest_passing test n) f ∙ (ap (greatest_passing test) none ∙ sym one))
      ])
    ]
