-- Rows of a schedule, round by round.
use Rattle.std.proofs.Common.{List, None, Option, [], arith, filter, get_or, inl, inr, le_refl, length, refl, subst, suc, sym, zero, ℕ, ◌+◌, ◌<◌, ◌∷◌, ◌≡◌, ◌≤◌}
use Rattle.std.proofs.lemmas.Bool.{cases_Bool}
use Rattle.std.specs.List.{AllByRecursion, range_with_len}
use Rattle.sched_base.specs.declared.rows.Row.{Row}
use Rattle.sched_base.specs.Rows.{AllApart}
use Rattle.sched_base.proofs.ListLemmas.{passing_off, passing_on}
use Rattle.sched_base.proofs.RowLemmas.{AllApart-append, AllByRecursion-append}
use Rattle.run_tree.specs.Tree.{Tree}
use Rattle.run_tree.specs.Boundaries.{set_boundary}
use Rattle.run_tree.specs.Rounds.{is_event}
use Rattle.run_tree.specs.Schedule.{leaf_on, onto_at, round_rows, rows_from, rows_of, rows_of_events, schedule, shown}
use Rattle.sched_base.specs.declared.sets.Task as declared

module _ (tasks : List declared.Task) (t : Tree) where
  -- the row of processor q, which holds this pack, in the round from s up to e
  abbrev pub row_of : ℕ → ℕ → ℕ → Option ℕ → Row
  row_of s e q o = record { processor = q; start = s; end = e; leaf = shown tasks t.scale s (leaf_on (set_boundary tasks) t s o) }

  -- what holds of the row of each processor holds of all
  pub rows_from_all : (P : Row → Type 0) (s e p : ℕ) (onto : List (Option ℕ)) →
      ((q k : ℕ) → q ≡ p + k → k < length onto → P (row_of s e q (get_or onto k None))) → AllByRecursion P (rows_from tasks t s e p onto)
  rows_from_all P s e p [] f = tt
  rows_from_all P s e p (o ∷ onto) f = (
    f p 0 (omega arith) (omega arith),
    rows_from_all P s e (suc p) onto (λ q k i l. f q (suc k) (omega arith)
        (omega arith)),
  )

  -- what holds of the rows of each two processors holds of each two
  pub rows_from_apart : (R : Row → Row → Type 0) (s e p : ℕ) (onto : List (Option ℕ)) →
      ((p' q : ℕ) (o o' : Option ℕ) → p' < q → R (row_of s e p' o) (row_of s e q o')) → AllApart R (rows_from tasks t s e p onto)
  rows_from_apart R s e p [] f = tt
  rows_from_apart R s e p (o ∷ onto) f =
      (rows_from_all (R (row_of s e p o)) s e (suc p) onto (λ q k at l. f p q o (get_or onto k None) (omega arith)), rows_from_apart R s e (suc p) onto f)

  -- the rows of a round, from the first processor on
  pub round_is : (s e : ℕ) → round_rows tasks t s e ≡ rows_from tasks t s e 0 (onto_at (set_boundary tasks) t s)
  unfolding round_rows
  round_is s e = refl

  -- what holds of the row of each processor holds of the round
  pub round_all : (P : Row → Type 0) (s e : ℕ) →
      ((p : ℕ) → p < length (onto_at (set_boundary tasks) t s) → P (row_of s e p (get_or (onto_at (set_boundary tasks) t s) p None))) →
      AllByRecursion P (round_rows tasks t s e)
  unfolding round_rows
  round_all P s e f = rows_from_all P s e 0 (onto_at (set_boundary tasks) t s) (λ q k at l.
      let same : q ≡ k = omega arith in
      subst (λ (p : ℕ). P (row_of s e p (get_or (onto_at (set_boundary tasks) t s) k None))) (sym same) (f k l))

  -- what holds of each round's rows holds of the rows of the rounds from m on, where the last event before m is s
  pub over_rounds : (P : Row → Type 0) (stop low : ℕ) → ((s e : ℕ) → low ≤ s → s < e → e ≤ stop → AllByRecursion P (round_rows tasks t s e)) →
      (n m s : ℕ) → m + n ≡ stop → low ≤ s → s < m → AllByRecursion P (rows_of tasks t stop s (filter (is_event (set_boundary tasks) t) (range_with_len m n)))
  over_rounds P stop low each zero m s e b l = each s stop b (omega arith) (le_refl stop)
  over_rounds P stop low each (suc n) m s e b l =
      let F : List ℕ → Type 0 = λ events. AllByRecursion P (rows_of tasks t stop s events) in
      elim (cases_Bool (is_event (set_boundary tasks) t m)) [
        | inl on ↦ subst F (sym (passing_on (is_event (set_boundary tasks) t) m n on))
            (AllByRecursion-append P (round_rows tasks t s m) (rows_of tasks t stop m (filter (is_event (set_boundary tasks) t) (range_with_len (m + 1) n)))
            (each s m b l (omega arith)) (over_rounds P stop low each n (m + 1) m (omega arith) (omega arith) (omega arith)))
        | inr off ↦ subst F (sym (passing_off (is_event (set_boundary tasks) t) m n off)) (over_rounds P stop low each n (m + 1) s (omega arith) b
            (omega arith))
      ]

  -- rows of two rounds are apart, and so what holds of each two rows of a round holds of all
  pub apart_rounds : (R : Row → Row → Type 0) (stop : ℕ) → ((r q : Row) → r.end ≤ q.start → R r q) → ((s e : ℕ) → AllApart R (round_rows tasks t s e)) →
      (n m s : ℕ) → m + n ≡ stop → s < m → AllApart R (rows_of tasks t stop s (filter (is_event (set_boundary tasks) t) (range_with_len m n)))
  apart_rounds R stop after each zero m s e l = each s stop
  apart_rounds R stop after each (suc n) m s e l =
      let F : List ℕ → Type 0 = λ events. AllApart R (rows_of tasks t stop s events) in
      elim (cases_Bool (is_event (set_boundary tasks) t m)) [
        | inl on ↦ subst F (sym (passing_on (is_event (set_boundary tasks) t) m n on))
            (AllApart-append R (λ r. r.end ≤ m) (λ r. m ≤ r.start) (round_rows tasks t s m) (rows_of tasks t stop m
            (filter (is_event (set_boundary tasks) t) (range_with_len (m + 1) n)))
            (λ r q a b. after r q (omega arith))
            (round_all (λ r. r.end ≤ m) s m (λ p b. le_refl m))
            (over_rounds (λ r. m ≤ r.start) stop m (λ s' e' low up top. round_all (λ r. m ≤ r.start) s' e' (λ p b. low)) n (m + 1) m (omega arith)
            (le_refl m) (omega arith))
            (each s m) (apart_rounds R stop after each n (m + 1) m (omega arith) (omega arith)))
        | inr off ↦ subst F (sym (passing_off (is_event (set_boundary tasks) t) m n off)) (apart_rounds R stop after each n (m + 1) s (omega arith)
            (omega arith))
      ]

  module _ (stop : ℕ) where
    -- a statement on all rows of the schedule, from one on the rows of the rounds
    pub from_rounds : (G : List Row → Type 0) → G [] → ((n : ℕ) → 1 + n ≡ stop → G (rows_of tasks t stop 0 (filter (is_event (set_boundary tasks) t)
        (range_with_len 1 n)))) → G (schedule tasks t stop)
    unfolding schedule is_event
    from_rounds G none some = go stop refl
      where
        go : (n : ℕ) → n ≡ stop → G (rows_of_events tasks t stop (filter (is_event (set_boundary tasks) t) (range_with_len 0 n)))
        go zero e = none
        go (suc n) e = some n (omega (arith, e))

    -- what holds of the row of each processor in each round holds of all rows
    pub schedule_all : (P : Row → Type 0) →
        ((s e p : ℕ) → s < e → e ≤ stop → p < length (onto_at (set_boundary tasks) t s) →
        P (row_of s e p (get_or (onto_at (set_boundary tasks) t s) p None))) → AllByRecursion P (schedule tasks t stop)
    schedule_all P f = from_rounds (λ rows. AllByRecursion P rows) tt
        (λ n e. over_rounds P stop 0 (λ s e' low up top. round_all P s e' (λ p b. f s e' p up top b)) n 1 0 e (le_refl 0) (omega arith))

    -- what holds of each two rows of a round, and of a row and each one that starts when it has ended, holds of each two rows
    pub schedule_apart : (R : Row → Row → Type 0) → ((r q : Row) → r.end ≤ q.start → R r q) → ((s e : ℕ) → AllApart R (round_rows tasks t s e)) →
        AllApart R (schedule tasks t stop)
    schedule_apart R after each = from_rounds (λ rows. AllApart R rows) tt (λ n e. apart_rounds R stop after each n 1 0 e (omega arith))
