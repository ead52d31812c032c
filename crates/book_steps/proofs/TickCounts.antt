-- The ticks of a task's posted rows are those of its rows before a round only where all these are posted.
use Rattle.std.proofs.Common.{◌≡◌, inl, inr, ℕ, zero, suc, ◌+◌, ◌-◌, ◌<◌, ◌≤◌, true, false, List, [], ◌∷◌, Option, None, Some, length, take, refl}
use Rattle.std.proofs.Common.{sym, ap, ◌∙◌, subst, arith}
use Rattle.std.specs.Prelude.{slice_get, slice_index}
use Rattle.std.proofs.lemmas.Bool.{cases_Bool, cases_eq, cases_order, eq-eqb}
use Rattle.std.proofs.lemmas.List.{length-map}
use Rattle.sched_base.specs.declared.rows.Leaf.TheVariants.{Task}
use Rattle.sched_base.specs.declared.rows.Row.{Row}
use Rattle.sched_base.specs.declared.rows.TaskId.{TaskId}
use Rattle.sched_base.specs.Rows.{is_of_task}
use Rattle.sched_base.specs.Tables.{RowAt, IsTable, row_ticks, ticks_in, ticks_of, ticks_before}
use Rattle.sched_base.proofs.TickLemmas.{task_from_is_of_task}
use Rattle.book_machine.specs.declared.machine.LaneState.{LaneState}
use Rattle.book_machine.specs.Machine.{State, EarlierPosted, posted_at}
use Rattle.book_machine.specs.Reached.{IsReached, counts_of}
use Rattle.book_machine.proofs.PostedTicks.{counts_of-at}

-- ---- one lane

-- the ticks of one row more
abbrev pub place_ticks : ℕ → Option Row → ℕ
place_ticks t None = 0
place_ticks t (Some r) = row_ticks t r

pub ticks_in-next : (t : ℕ) (rows : List Row) (k : ℕ) → ticks_in t (take (suc k) rows) ≡ ticks_in t (take k rows) + place_ticks t (slice_get rows k)
ticks_in-next t [] zero = refl
ticks_in-next t [] (suc k) = refl
ticks_in-next t (r ∷ rows) zero = omega arith
ticks_in-next t (r ∷ rows) (suc k) = let e = ticks_in-next t rows k in omega (arith, e)

pub row_ticks-none : (t : ℕ) (r : Row) → is_of_task t r.leaf ≡ false → row_ticks t r ≡ 0
row_ticks-none t r off = rw off (omega arith)

pub row_ticks-some : (t : ℕ) (r : Row) → is_of_task t r.leaf ≡ true → row_ticks t r ≡ r.end - r.start
row_ticks-some t r on = rw on (omega arith)

-- no more ticks, where each of the first n rows that is of the task is one of the first k; fewer, where one of the first k isn't one of the first n
no_more : (t : ℕ) (rows : List Row) (n k : ℕ) → ((i : ℕ) (r : Row) → slice_get rows i ≡ Some r → is_of_task t r.leaf ≡ true → i < n → i < k)
    → ticks_in t (take n rows) ≤ ticks_in t (take k rows)
no_more t [] zero zero only = omega arith
no_more t [] zero (suc k) only = omega arith
no_more t [] (suc n) zero only = omega arith
no_more t [] (suc n) (suc k) only = omega arith
no_more t (r ∷ rows) zero k only = omega arith
no_more t (r ∷ rows) (suc n) zero only =
    let rest = no_more t rows n zero (λ i s at is below. absurd (let b = only (suc i) s at is (omega (arith, below)) in omega (arith, b))) in
    let here : row_ticks t r ≡ 0 = elim (cases_Bool (is_of_task t r.leaf)) [
      | inl on ↦ absurd (let b = only 0 r refl on (omega arith) in omega (arith, b))
      | inr off ↦ row_ticks-none t r off
    ] in
    omega (arith, rest, here)
no_more t (r ∷ rows) (suc n) (suc k) only =
    let rest = no_more t rows n k (λ i s at is below. let b = only (suc i) s at is (omega (arith, below)) in omega (arith, b)) in
    omega (arith, rest)

fewer : (t : ℕ) (rows : List Row) (n k j : ℕ) (r : Row) → ((i : ℕ) (s : Row) → slice_get rows i ≡ Some s → is_of_task t s.leaf ≡ true → i < n → i < k)
    → slice_get rows j ≡ Some r → is_of_task t r.leaf ≡ true → r.start < r.end → n ≤ j → j < k → ticks_in t (take n rows) < ticks_in t (take k rows)
fewer t [] n k j r only at is forward past below = absurd (let e : None ≡ Some r = at in cc)
fewer t (s ∷ rows) zero zero j r only at is forward past below = absurd (omega (arith, below))
fewer t (s ∷ rows) zero (suc k) zero r only at is forward past below =
    let e : Some s ≡ Some r = at in
    let same : s ≡ r = cc in
    let here = row_ticks-some t r is in
    let one : row_ticks t s ≡ row_ticks t r = ap (row_ticks t) same in
    omega (arith, here, one, forward)
fewer t (s ∷ rows) zero (suc k) (suc j) r only at is forward past below =
    let rest = fewer t rows zero k j r (λ i u there of low. absurd (omega (arith, low))) at is forward (omega arith) (omega (arith, below)) in
    let none : ticks_in t (take zero rows) ≡ 0 = refl in
    omega (arith, rest, none)
fewer t (s ∷ rows) (suc n) zero j r only at is forward past below = absurd (omega (arith, below))
fewer t (s ∷ rows) (suc n) (suc k) zero r only at is forward past below = absurd (omega (arith, past))
fewer t (s ∷ rows) (suc n) (suc k) (suc j) r only at is forward past below =
    let rest = fewer t rows n k j r (λ i u there of low. let b = only (suc i) u there of (omega (arith, low)) in omega (arith, b)) at is forward
    (omega (arith, past)) (omega (arith, below)) in
    omega (arith, rest)

-- ---- all lanes

abbrev OnlyBefore : ℕ → List (List Row) → List ℕ → ℕ → Type 0
OnlyBefore t lanes counts k = (q i : ℕ) (r : Row) → RowAt lanes q i r → is_of_task t r.leaf ≡ true → i < slice_index counts q → i < k

none_more : (t : ℕ) (lanes : List (List Row)) (counts : List ℕ) (k : ℕ) → OnlyBefore t lanes counts k → ticks_of t lanes counts ≤ ticks_before t k lanes
none_more t [] counts k only = omega arith
none_more t (lane ∷ lanes) [] k only = omega arith
none_more t (lane ∷ lanes) (n ∷ counts) k only =
    let here = no_more t lane n k (λ i r at is below. only 0 i r at is below) in
    let rest = none_more t lanes counts k (λ q i r at is below. only (suc q) i r at is below) in
    omega (arith, here, rest)

-- where one row before round k isn't counted, the ticks are fewer
one_fewer : (t : ℕ) (lanes : List (List Row)) (counts : List ℕ) (k q j : ℕ) (r : Row) → length counts ≡ length lanes → OnlyBefore t lanes counts k
    → RowAt lanes q j r → is_of_task t r.leaf ≡ true → r.start < r.end → slice_index counts q ≤ j → j < k → ticks_of t lanes counts < ticks_before t k lanes
one_fewer t [] counts k q j r many only at is forward past below = absurd (let e : None ≡ Some r = at in cc)
one_fewer t (lane ∷ lanes) [] k q j r many only at is forward past below = absurd (omega (arith, many))
one_fewer t (lane ∷ lanes) (n ∷ counts) k zero j r many only at is forward past below =
    let here = fewer t lane n k j r (λ i s there of low. only 0 i s there of low) at is forward past below in
    let rest = none_more t lanes counts k (λ u i s there of low. only (suc u) i s there of low) in
    omega (arith, here, rest)
one_fewer t (lane ∷ lanes) (n ∷ counts) k (suc q) j r many only at is forward past below =
    let here = no_more t lane n k (λ i s there of low. only 0 i s there of low) in
    let rest = one_fewer t lanes counts k q j r (omega (arith, many)) (λ u i s there of low. only (suc u) i s there of low) at is forward past below in
    omega (arith, here, rest)

-- a task whose posted rows have the ticks of its rows before round k has all these posted, where its row of round k is the next one of its processor
pub earlier_by_ticks : (rows : List (List Row)) (window : ℕ) (s : State) → IsTable rows → IsReached rows window s → (p : ℕ) (r : Row) (task : TaskId) →
    RowAt rows p (posted_at s p) r → r.leaf ≡ Task task
    → ticks_of task.0 rows (counts_of s.lanes) ≡ ticks_before task.0 (posted_at s p) rows → EarlierPosted rows s.lanes p (posted_at s p) r.leaf
earlier_by_ticks rows window s table h p r task at is same = λ q other j u early there leaf. elim (cases_order j (posted_at s q)) [
  | inl equal ↦ absurd (missing q j u early there leaf (omega (arith, equal)))
  | inr rest ↦ elim rest [
    | inl less ↦ less
    | inr more ↦ absurd (missing q j u early there leaf (omega (arith, more)))
  ]
]
  where
    t : ℕ
    t = task.0

    of_task : (v : Row) → is_of_task t v.leaf ≡ true → v.leaf ≡ Task task
    of_task v on = task_from_is_of_task t v.leaf on

    -- a posted row of the task stands before this round
    only : OnlyBefore t rows (counts_of s.lanes) (posted_at s p)
    only q i v there on low =
        let count = counts_of-at s.lanes q in
        let posted : i < posted_at s q = omega (arith, low, count) in
        elim (cases_eq q p) [
          | inl equal ↦ (let e = ap (posted_at s) equal in omega (arith, posted, e))
          | inr other ↦ elim (cases_order i (posted_at s p)) [
            | inl equal ↦ absurd (other (table.once q p i v r task there (subst (λ n. RowAt rows p n r) (sym equal) at) (of_task v on) is))
            | inr rest ↦ elim rest [
              | inl less ↦ less
              | inr later ↦ absurd (let first = h.posted_after_earlier q i v posted there p (λ e. other (sym e)) (posted_at s p) r later at
                  (is ∙ sym (of_task v on)) in omega (arith, first))
            ]
          ]
        ]

    missing : (q j : ℕ) (u : Row) → j < posted_at s p → RowAt rows q j u → u.leaf ≡ r.leaf → posted_at s q ≤ j → ⊥
    missing q j u early there leaf past =
        let count = counts_of-at s.lanes q in
        let named : is_of_task t u.leaf ≡ true = ap (is_of_task t) (leaf ∙ is) ∙ eq-eqb t t refl in
        let forward = (table.forward q j u there).0 in
        let less = one_fewer t rows (counts_of s.lanes) (posted_at s p) q j u (length-map s.lanes (λ (l : LaneState). l.posted) ∙ h.lanes) only there named
        forward (omega (arith, past, count)) early in
        omega (arith, less, same)
