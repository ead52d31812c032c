-- The ticks that whole rounds give to one task.
use Rattle.std.proofs.Common.{length, ◌≡◌, ℕ, zero, suc, ◌+◌, ◌-◌, ◌*◌, ◌<◌, ◌≤◌, ◌^◌, Bool, true, false, List, [], ◌∷◌, Option, Some, None, take}
use Rattle.std.proofs.Common.{get_or, refl, sym, ap, ◌∙◌, arith, add-one, ◌⊎◌, inl, inr}
use Rattle.std.specs.Prelude.{slice_get, slice_set, slice_index}
use Rattle.std.proofs.lemmas.Option.{slice_get-get_or}
use Rattle.std.proofs.lemmas.Bool.{eqb-true}
use Rattle.sched_base.specs.declared.rows.Row.{Row}
use Rattle.sched_base.specs.declared.rows.Leaf.{Leaf}
use Rattle.sched_base.specs.declared.rows.Leaf.TheVariants.{Task, Wait, Idle, Empty}
use Rattle.sched_base.specs.Counting.{bit}
use Rattle.sched_base.specs.Rows.{is_of_task}
use Rattle.sched_base.specs.Tables.{lane_of, RowAt, rounds_in, end_after, IsTable, row_ticks, ticks_in, ticks_of, ticks_before}
use Rattle.sched_base.proofs.TableLemmas.{no_row, row_at, row_within}

-- a leaf of task j is that task
pub task_from_is_of_task : (j : ℕ) (leaf : Leaf) → is_of_task j leaf ≡ true → leaf ≡ Task (record { 0 = j })
task_from_is_of_task j (Task id) h = let e : id.0 ≡ j = eqb-true id.0 j h in ap (λ n. Task (record { 0 = n })) e
task_from_is_of_task j (Wait id) h = cc
task_from_is_of_task j (Idle number) h = cc
task_from_is_of_task j Empty h = cc

is_true_or : (b : Bool) → (b ≡ true) ⊎ (b ≡ false)
is_true_or true = inl refl
is_true_or false = inr refl

-- the ticks that a place gives
abbrev given_at : ℕ → Option Row → ℕ
given_at j None = 0
given_at j (Some r) = row_ticks j r

-- the ticks that round k gives
abbrev round_ticks : ℕ → ℕ → List (List Row) → ℕ
round_ticks j k [] = 0
round_ticks j k (lane ∷ lanes) = given_at j (slice_get lane k) + round_ticks j k lanes

ticks_in-take-suc : (j : ℕ) (rows : List Row) (k : ℕ) → ticks_in j (take (suc k) rows) ≡ ticks_in j (take k rows) + given_at j (slice_get rows k)
ticks_in-take-suc j [] zero = refl
ticks_in-take-suc j [] (suc k) = refl
ticks_in-take-suc j (r ∷ rows) zero = omega arith
ticks_in-take-suc j (r ∷ rows) (suc k) = let e = ticks_in-take-suc j rows k in omega (arith, e)

ticks_before-suc : (j k : ℕ) (lanes : List (List Row)) → ticks_before j (suc k) lanes ≡ ticks_before j k lanes + round_ticks j k lanes
ticks_before-suc j k [] = refl
ticks_before-suc j k (lane ∷ lanes) = let e = ticks_before-suc j k lanes in let f = ticks_in-take-suc j lane k in omega (arith, e, f)

-- no row of the task, no tick
given_at-none : (j : ℕ) (place : Option Row) → ((r : Row) → place ≡ Some r → is_of_task j r.leaf ≡ false) → given_at j place ≡ 0
given_at-none j None none = refl
given_at-none j (Some r) none = rw (none r refl) (omega arith)

round_ticks-none : (j k : ℕ) (lanes : List (List Row)) → ((p : ℕ) (r : Row) → RowAt lanes p k r → is_of_task j r.leaf ≡ false) → round_ticks j k lanes ≡ 0
round_ticks-none j k [] none = refl
round_ticks-none j k (lane ∷ lanes) none =
    let rest = round_ticks-none j k lanes (λ p r at. none (suc p) r at) in
    let here = given_at-none j (slice_get lane k) (λ r at. none 0 r at) in
    omega (arith, rest, here)

row_ticks-le : (j : ℕ) (r : Row) → row_ticks j r ≤ r.end - r.start
row_ticks-le j r = elim (is_of_task j r.leaf) as (λ b. bit b * (r.end - r.start) ≤ r.end - r.start) [ true ↦ omega arith | false ↦ omega arith ]

-- a place gives task j nothing, or no more than the span
given_at-cases : (j span : ℕ) (place : Option Row) → ((r : Row) → place ≡ Some r → r.end - r.start ≤ span)
    → (given_at j place ≡ 0) ⊎ ((given_at j place ≤ span) × ((r : Row) × (place ≡ Some r) × (is_of_task j r.leaf ≡ true)))
given_at-cases j span None within = inl refl
given_at-cases j span (Some r) within = elim (is_true_or (is_of_task j r.leaf)) [
  | inl is_task ↦ inr (let a = row_ticks-le j r in let b = within r refl in omega (arith, a, b), (r, refl, is_task))
  | inr other ↦ inl (rw other (omega arith))
]

-- where no two rows of a round are of the task, the round gives it no more than one row's span
round_ticks-le : (j k span : ℕ) (lanes : List (List Row)) → ((p : ℕ) (r : Row) → RowAt lanes p k r → r.end - r.start ≤ span)
    → ((p q : ℕ) (r s : Row) → RowAt lanes p k r → RowAt lanes q k s → is_of_task j r.leaf ≡ true → is_of_task j s.leaf ≡ true → p ≡ q) →
    round_ticks j k lanes ≤ span
round_ticks-le j k span [] within once = omega arith
round_ticks-le j k span (lane ∷ lanes) within once = elim (given_at-cases j span (slice_get lane k) (λ r at. within 0 r at)) [
  | inl none ↦ (
      let rest = round_ticks-le j k span lanes (λ p r at. within (suc p) r at) (λ p q r s at there is is'. let e : suc p ≡ suc q = once (suc p) (suc q) r s
      at there is is' in omega (arith, e)) in
      omega (arith, none, rest)
      )
  | inr some ↦ (
      let rest = round_ticks-none j k lanes (λ p r at. elim (is_true_or (is_of_task j r.leaf)) [
        | inl is_task ↦ absurd (let e : 0 ≡ suc p = once 0 (suc p) some.1.0 r some.1.1 at some.1.2 is_task in omega (arith, e))
        | inr other ↦ other
      ]) in
      omega (arith, some.0, rest)
      )
]

end_after-take-suc : (rows : List Row) (before k : ℕ) (r : Row) → slice_get rows k ≡ Some r → end_after before (take (suc k) rows) ≡ r.end
end_after-take-suc [] before k r at = cc
end_after-take-suc (s ∷ rows) before zero r at = let e : Some s ≡ Some r = at in let e' : s ≡ r = cc in ap (λ (x : Row). x.end) e'
end_after-take-suc (s ∷ rows) before (suc k) r at = end_after-take-suc rows s.end k r at

ticks_before-zero : (j : ℕ) (lanes : List (List Row)) → ticks_before j 0 lanes ≡ 0
ticks_before-zero j [] = refl
ticks_before-zero j (lane ∷ lanes) = let e = ticks_before-zero j lanes in omega (arith, e)

module _ (lanes : List (List Row)) (h : IsTable lanes) where
  -- the rounds before round k end where it starts
  pub end_after-take : (p k : ℕ) (r : Row) → RowAt lanes p k r → end_after 0 (take k (lane_of lanes 0)) ≡ r.start
  end_after-take p zero r at = sym (h.first p r at)
  end_after-take p (suc k) r at =
      let here = row_within lanes h p (suc k) r at in
      let first = row_at lanes h 0 k (omega (arith, here)) (omega (arith, here.1)) in
      let before = row_at lanes h p k here.0 (omega (arith, here.1)) in
      let next = h.next p k before.0 r before.1 (rw add-one at) in
      end_after-take-suc (lane_of lanes 0) 0 k first.0 first.1 ∙ (h.together 0 p k first.0 before.0 first.1 before.1).1 ∙ sym next

  -- the rounds before round k give a task no more ticks than passed
  pub ticks_before-le : (j k : ℕ) → k ≤ rounds_in lanes → ticks_before j k lanes ≤ end_after 0 (take k (lane_of lanes 0))
  ticks_before-le j zero within = let e = ticks_before-zero j lanes in omega (arith, e)
  ticks_before-le j (suc k) within =
      let r : Row = get_or (lane_of lanes 0) k no_row in
      let at : RowAt lanes 0 k r = slice_get-get_or (lane_of lanes 0) k no_row (omega arith) in
      let before = ticks_before-le j k (omega arith) in
      let start = end_after-take 0 k r at in
      let end = end_after-take-suc (lane_of lanes 0) 0 k r at in
      let some = (h.forward 0 k r at).0 in
      let more = ticks_before-suc j k lanes in
      let round = round_ticks-le j k (r.end - r.start) lanes
      (λ p s there. let same = h.together 0 p k r s at there in omega (arith, same.0, same.1))
      (λ p q s t there here is is'. h.once p q k s t (record { 0 = j }) there here (task_from_is_of_task j s.leaf is) (task_from_is_of_task j t.leaf is')) in
      omega (arith, before, start, end, some, more, round)

  -- with a row of round k a task has less than 2^127 ticks
  pub ticks_before-fits : (j p k : ℕ) (r : Row) → RowAt lanes p k r → ticks_before j k lanes + (r.end - r.start) < 2 ^ 127
  ticks_before-fits j p k r at =
      let before = ticks_before-le j k (let w = row_within lanes h p k r at in omega (arith, w.1)) in
      let start = end_after-take p k r at in
      let span = h.forward p k r at in
      omega (arith, before, start, span.0, span.1)

-- which rows of the task there are decides the ticks
ticks_in-none : (j n : ℕ) → ticks_in j (take n []) ≡ 0
ticks_in-none j zero = refl
ticks_in-none j (suc n) = refl

ticks_in-same : (j : ℕ) (rows : List Row) (n k : ℕ) → ((i : ℕ) (r : Row) → slice_get rows i ≡ Some r → is_of_task j r.leaf ≡ true → (i < n → i < k)
    × (i < k → i < n)) → ticks_in j (take n rows) ≡ ticks_in j (take k rows)
ticks_in-same j [] n k h = ticks_in-none j n ∙ sym (ticks_in-none j k)
ticks_in-same j (r ∷ rows) zero zero h = refl
ticks_in-same j (r ∷ rows) zero (suc k) h =
    let rest = ticks_in-same j rows zero k (λ i s at is. (
      λ less. absurd (omega arith),
      λ less. let a = (h (suc i) s at is).1 (omega arith) in
          omega (arith, a),
    )) in
    let here = given_at-none j (Some r) (λ s at. elim (is_true_or (is_of_task j s.leaf))
    [ inl is_task ↦ absurd (let a = (h 0 s at is_task).1 (omega arith) in omega (arith, a)) | inr other ↦ other ]) in
    omega (arith, rest, here)
ticks_in-same j (r ∷ rows) (suc n) zero h =
    let rest = ticks_in-same j rows n zero (λ i s at is. (
      λ less. let a = (h (suc i) s at is).0 (omega arith) in omega (arith, a),
      λ less. absurd (omega arith),
    )) in
    let here = given_at-none j (Some r) (λ s at. elim (is_true_or (is_of_task j s.leaf))
    [ inl is_task ↦ absurd (let a = (h 0 s at is_task).0 (omega arith) in omega (arith, a)) | inr other ↦ other ]) in
    omega (arith, rest, here)
ticks_in-same j (r ∷ rows) (suc n) (suc k) h =
    let rest = ticks_in-same j rows n k (λ i s at is. let a = h (suc i) s at is in (
      λ less. let b = a.0 (omega arith) in omega (arith, b),
      λ less. let b =
          a.1 (omega arith) in omega (arith, b),
    )) in
    omega (arith, rest)

-- where the counted rows of the task are those of the rounds before round k, so are their ticks
pub ticks_of-before : (j k : ℕ) (lanes : List (List Row)) (counts : List ℕ) → length counts ≡ length lanes
    → ((q i : ℕ) (r : Row) → RowAt lanes q i r → is_of_task j r.leaf ≡ true → (i < slice_index counts q → i < k) × (i < k → i < slice_index counts q)) →
    ticks_of j lanes counts ≡ ticks_before j k lanes
ticks_of-before j k [] counts many h = refl
ticks_of-before j k (lane ∷ lanes) [] many h = absurd (omega arith)
ticks_of-before j k (lane ∷ lanes) (n ∷ counts) many h =
    let here = ticks_in-same j lane n k (λ i r at is. h 0 i r at is) in
    let rest = ticks_of-before j k lanes counts (omega arith) (λ q i r at is. h (suc q) i r at is) in
    omega (arith, here, rest)

-- a lane's next row more
pub ticks_of-set : (j : ℕ) (lanes : List (List Row)) (counts : List ℕ) (p : ℕ) (r : Row) → p < length counts → RowAt lanes p (slice_index counts p) r
    → ticks_of j lanes (slice_set counts p (slice_index counts p + 1)) ≡ ticks_of j lanes counts + row_ticks j r
ticks_of-set j [] counts p r within at = absurd (let e : None ≡ Some r = at in cc)
ticks_of-set j (lane ∷ lanes) [] p r within at = absurd (omega arith)
ticks_of-set j (lane ∷ lanes) (n ∷ counts) zero r within at =
    let more : ticks_in j (take (n + 1) lane) ≡ ticks_in j (take n lane) + given_at j (slice_get lane n) = rw add-one (ticks_in-take-suc j lane n) in
    let given : given_at j (slice_get lane n) ≡ row_ticks j r = ap (given_at j) at in
    omega (arith, more, given)
ticks_of-set j (lane ∷ lanes) (n ∷ counts) (suc p) r within at = let rest = ticks_of-set j lanes counts p r (omega arith) at in omega (arith, rest)
