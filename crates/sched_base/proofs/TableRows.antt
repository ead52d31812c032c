-- The rows of all lanes together are those of the schedule, in another order.
use Rattle.std.proofs.Common.{◌≡◌, ℕ, zero, suc, ◌+◌, ◌*◌, ◌<◌, ◌≤◌, List, [], ◌∷◌, ◌++◌, true, length, refl, ap, sym, ◌∙◌, arith, subst, inl, inr}
use Rattle.std.specs.List.{AllByRecursion}
use Rattle.std.proofs.lemmas.Bool.{cases_order}
use Rattle.sched_base.specs.declared.rows.Row.{Row}
use Rattle.sched_base.specs.Counting.{bit}
use Rattle.sched_base.specs.Rows.{is_of_task, overlap, task_ticks}
use Rattle.sched_base.specs.Sets.{SetContents, task_at}
use Rattle.sched_base.specs.Tables.{IsTable, all_rows}
use Rattle.sched_base.specs.Valid.{IsValid, period_start, served}
use Rattle.sched_base.proofs.ApartLemmas.{processors_apart, tasks_apart}
use Rattle.sched_base.proofs.RowLemmas.{AllByRecursion-append, AllByRecursion-by, task_ticks-append}
use Rattle.sched_base.specs.Lanes.{lanes_of, rows_on}
use Rattle.sched_base.proofs.ScheduleLanes.{lanes_from, lanes_of-all, rows_on-other, rows_on-own}

-- what holds in each lane holds of all rows
all_rows-all : (P : Row → Type 0) (lanes : List (List Row)) → AllByRecursion (λ lane. AllByRecursion P lane) lanes → AllByRecursion P (all_rows lanes)
all_rows-all P [] all = tt
all_rows-all P (lane ∷ lanes) all = AllByRecursion-append P lane (all_rows lanes) all.0 (all_rows-all P lanes all.1)

all_rows-none : (a n : ℕ) → all_rows (lanes_from a n []) ≡ []
all_rows-none a zero = refl
all_rows-none a (suc n) = all_rows-none (a + 1) n

-- a row of a lower processor is in none of the lanes
lanes_from-below : (a n : ℕ) (r : Row) (rows : List Row) → r.processor < a → lanes_from a n (r ∷ rows) ≡ lanes_from a n rows
lanes_from-below a zero r rows l = refl
lanes_from-below a (suc n) r rows l =
    ap (λ lane. lane ∷ lanes_from (a + 1) n (r ∷ rows)) (rows_on-other a r rows (λ same. omega (arith, same, l)))
    ∙ ap (λ lanes. rows_on a rows ∷ lanes) (lanes_from-below (a + 1) n r rows (omega (arith, l)))

module _ (j s e : ℕ) where
  -- a row of one of these processors counts once
  ticks_from : (a n : ℕ) (r : Row) (rows : List Row) → a ≤ r.processor → r.processor < a + n
      → task_ticks (all_rows (lanes_from a n (r ∷ rows))) j s e ≡ task_ticks (r ∷ all_rows (lanes_from a n rows)) j s e
  ticks_from a zero r rows low high = absurd (omega arith)
  ticks_from a (suc n) r rows low high = elim (cases_order r.processor a) [
    | inl same ↦
        ap (λ lanes. task_ticks (all_rows (rows_on a (r ∷ rows) ∷ lanes)) j s e) (lanes_from-below (a + 1) n r rows (omega (arith, same)))
        ∙ ap (λ lane. task_ticks (lane ++ all_rows (lanes_from (a + 1) n rows)) j s e) (rows_on-own a r rows same)
    | inr rest ↦
        (let rest_is = ticks_from (a + 1) n r rows (elim rest [ inl lt ↦ absurd (omega (arith, lt, low)) | inr gt ↦ omega (arith, gt) ])
        (omega (arith, high)) in
        let other = rows_on-other a r rows (λ same. elim rest [ inl lt ↦ omega (arith, lt, same) | inr gt ↦ omega (arith, gt, same) ]) in
        let lane = ap (λ lane. task_ticks (lane ++ all_rows (lanes_from (a + 1) n (r ∷ rows))) j s e) other in
        let both = task_ticks-append (rows_on a rows) (all_rows (lanes_from (a + 1) n (r ∷ rows))) j s e in
        let before = task_ticks-append (rows_on a rows) (all_rows (lanes_from (a + 1) n rows)) j s e in
        omega (arith, rest_is, lane, both, before))
  ]

  -- the ticks that all lanes give are those that the rows give
  pub lanes_ticks : (m : ℕ) (rows : List Row) → AllByRecursion (λ r. r.processor < m) rows → task_ticks (all_rows (lanes_of m rows)) j s e ≡ task_ticks rows
      j s e
  lanes_ticks m [] all = ap (λ rows. task_ticks rows j s e) (all_rows-none 0 m)
  lanes_ticks m (r ∷ rows) all =
      let first = all.0 in
      ticks_from 0 m r rows (omega arith) (omega (arith, first)) ∙ ap (λ n. bit (is_of_task j r.leaf) * overlap r.start r.end s e + n)
      (lanes_ticks m rows all.1)

-- lanes that hold the rows of a valid schedule are one, one lane after the other
module _ (s : SetContents) (scale horizon stop : ℕ) (rows : List Row) (valid : IsValid s scale horizon stop rows) (lanes : List (List Row))
    (is : lanes ≡ lanes_of s.processors rows) (table : IsTable lanes) where
  in_lanes : (P : Row → Type 0) → AllByRecursion P rows → AllByRecursion P (all_rows lanes)
  in_lanes P all = subst (λ (ls : List (List Row)). AllByRecursion P (all_rows ls)) (sym is) (all_rows-all P (lanes_of s.processors rows)
      (lanes_of-all P s.processors rows all))

  same_served : (j k : ℕ) → served scale s (all_rows lanes) j k ≡ served scale s rows j k
  same_served j k =
      ap (λ ls. served scale s (all_rows ls) j k) is
      ∙ lanes_ticks j (period_start scale (task_at s.tasks j) k) (period_start scale (task_at s.tasks j) (k + 1)) s.processors rows
      (AllByRecursion-by (λ r. (r.processor < s.processors) × (r.end ≤ stop)) (λ r. r.processor < s.processors) rows (λ r both. both.0) valid.bounded)

  -- lanes that hold them, one after the other, are a valid schedule too
  pub lanes_valid : IsValid s scale horizon stop (all_rows lanes)
  lanes_valid = record {
    bounded = in_lanes (λ r. (r.processor < s.processors) × (r.end ≤ stop)) valid.bounded;
    processors_apart = processors_apart lanes lanes table (λ q k r at. at);
    tasks_apart = tasks_apart lanes lanes table (λ q k r at. at);
    full = λ j k task by. same_served j k ∙ valid.full j k task by;
    no_more = λ j k task. (let same = same_served j k in let most = valid.no_more j k task in omega (arith, same, most));
    released = in_lanes (λ r. (j : ℕ) → j < length s.tasks → is_of_task j r.leaf ≡ true → (task_at s.tasks j).offset * scale ≤ r.start) valid.released;
  }
