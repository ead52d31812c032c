-- The rounds of a plan are a table, and their rows, each processor's merged, are a valid schedule.
use Rattle.std.proofs.Math.Nat.{mul-le-mul}
use Rattle.std.proofs.Common.{◌≡◌, inl, inr, ℕ, zero, suc, ◌+◌, ◌-◌, ◌*◌, ◌^◌, ◌<◌, ◌≤◌, lit<, le_of_lt, zero-add, true, false, Bool, List, [], ◌∷◌}
use Rattle.std.proofs.Common.{length, map, replicate, refl, sym, ap, ◌∙◌, subst, arith}
use Rattle.std.specs.List.{AllByRecursion}
use Rattle.std.proofs.lemmas.Bool.{cases_Bool, cases_eq}
use Rattle.sched_base.specs.declared.rows.Row.{Row}
use Rattle.sched_base.specs.Counting.{bit}
use Rattle.sched_base.specs.Lanes.{lanes_of}
use Rattle.sched_base.specs.Rows.{AllApart, DontOverlap, is_of_task, overlap, task_ticks}
use Rattle.sched_base.specs.Sets.{SetContents, task_at}
use Rattle.sched_base.specs.Tables.{IsRound, IsTable, all_rows, end_after, end_of, with_round}
use Rattle.sched_base.specs.Valid.{IsValid, period_start}
use Rattle.sched_base.proofs.ScheduleLanes.{end_of-with_round, lane_of-lanes_of, lanes_of-none, lanes_of-round, length-lanes_of}
use Rattle.sched_base.proofs.TableLemmas.{IsTable-none, IsTable-with_round}
use Rattle.sched_base.proofs.TableRows.{lanes_valid}
use Rattle.sched_laws.proofs.ValidRows.{set_valid}
use Rattle.sched_laws.proofs.WholeRounds.{length-round, round_get, set_round}
use Rattle.run_tree.specs.Plans.{PlanContents, schedule_of, stop_of}
use Rattle.event_core.specs.Rounds.{IsRoundStart, IsRoundUpTo, event_at, rows_before, rows_of_round}
use Rattle.event_core.proofs.NextCores.{event_first}
use Rattle.event_core.proofs.RoundsInOrder.{next_rows, no_rows}
use Rattle.repeat_plans.specs.Again.{HasTree}
use Rattle.merged_rows.specs.Merging.{merged, merged_lanes}
use Rattle.trace_check.specs.RoundTrip.{row_as_read}
use Rattle.trace_check.proofs.MergedLemmas.{merged_valid}
use Rattle.trace_check.proofs.RowTripLemmas.{of_task_again}
use Rattle.merged_rows.proofs.PushLemmas.{all_merged}

-- ---- from one round to the next

-- a round that begins before the end of all ends somewhere
ends_at : (p : PlanContents) (start fuel n : ℕ) → event_at p start ≡ true → start < n → n + fuel ≡ stop_of p → ((x : ℕ) → start < x → x < n →
    event_at p x ≡ false) → (end : ℕ) × IsRoundUpTo p start end
ends_at p start zero n on above all quiet =
    (n, record { event = on; above = above; below = omega (arith, all); quiet = quiet; last = inl (omega (arith, all)) })
ends_at p start (suc fuel) n on above all quiet = elim (cases_Bool (event_at p n)) [
  | inl is ↦ (n, record { event = on; above = above; below = omega (arith, all); quiet = quiet; last = inr is })
  | inr off ↦ ends_at p start fuel (n + 1) on (omega (arith, above)) (omega (arith, all)) (λ x low high. elim (cases_eq x n) [
    | inl same ↦ ap (event_at p) same ∙ off
    | inr other ↦ quiet x low (omega (arith, high))
  ])
]

-- what each round keeps holds at the end, where it holds at a round's start
at_stop : (p : PlanContents) (P : ℕ → Type 0) → ((start end : ℕ) → IsRoundUpTo p start end → P start → P end) → (fuel n : ℕ) → stop_of p ≤ n + fuel →
    n ≤ stop_of p → IsRoundStart p n → P n → P (stop_of p)
at_stop p P keeps zero n enough below start here = subst P (omega (arith, enough, below)) here
at_stop p P keeps (suc fuel) n enough below (inl same) here = subst P same here
at_stop p P keeps (suc fuel) n enough below (inr on) here = elim (cases_eq n (stop_of p)) [
  | inl same ↦ subst P same here
  | inr other ↦ (
      let (end, round) = ends_at p n (stop_of p - (n + 1)) (n + 1) on (omega arith) (omega (arith, below)) (λ x low high. absurd (omega (arith, low, high))) in
      let up = round.above in
      at_stop p P keeps fuel end (omega (arith, enough, up)) round.below round.last (keeps n end round here)
      )
]

-- ---- the rounds of a plan are a table

-- the lanes of the rounds before tick n
abbrev lanes_at : PlanContents → ℕ → List (List Row)
lanes_at p n = lanes_of p.tree.processors (rows_before p n)

-- the rounds before tick n are a table that ends there
record IsTableUpTo (p : PlanContents) (n : ℕ) : Type 0 where
  table : IsTable (lanes_at p n)
  ends : end_of (lanes_at p n) ≡ n

module _ (p : PlanContents) (h : HasTree p) where
  some_processors : 1 ≤ p.tree.processors
  some_processors = let same = h.tree.processors in let some = h.lawful.some_processors in omega (arith, same, some)

  stop_fits : stop_of p < 2 ^ 127
  stop_fits =
      let units = h.lawful.horizon_fits in
      let most : p.set.horizon * p.tree.scale ≤ 2 ^ 32 * 2 ^ 94 = mul-le-mul (le_of_lt units) h.scale_fits in
      let fits : 2 ^ 32 * 2 ^ 94 < 2 ^ 127 = lit< tt in
      omega (arith, most, fits)

  no_lanes : lanes_at p 0 ≡ replicate p.tree.processors []
  no_lanes = ap (lanes_of p.tree.processors) (no_rows p) ∙ lanes_of-none p.tree.processors

  no_end : end_of (lanes_of p.tree.processors []) ≡ 0
  no_end = let some = some_processors in ap (end_after 0) (lane_of-lanes_of p.tree.processors [] 0 (omega (arith, some)))

  table_first : IsTableUpTo p 0
  table_first = record {
    table = subst (λ (lanes : List (List Row)). IsTable lanes) (sym no_lanes) (IsTable-none p.tree.processors);
    ends = ap (λ rows. end_of (lanes_of p.tree.processors rows)) (no_rows p) ∙ no_end;
  }

  module _ (start end : ℕ) (r : IsRoundUpTo p start end) where
    round : IsRound start (rows_of_round p start end)
    round = let up = r.above in let below = r.below in let fits = stop_fits in set_round p.set h.lawful p.tree h.tree start end up (omega (arith, below, fits))

    lanes_next : lanes_at p end ≡ with_round (lanes_at p start) (rows_of_round p start end)
    lanes_next =
        ap (lanes_of p.tree.processors) (next_rows p start end r)
        ∙ lanes_of-round p.tree.processors (rows_before p start) (rows_of_round p start end) (length-round p.set.tasks p.tree start end)
        (record { own = λ k row at. round.own k row at ∙ sym (zero-add k) })

    same_width : length (rows_of_round p start end) ≡ length (lanes_at p start)
    same_width = length-round p.set.tasks p.tree start end ∙ sym (length-lanes_of p.tree.processors (rows_before p start))

    some_lanes : 0 < length (lanes_at p start)
    some_lanes = let long = length-lanes_of p.tree.processors (rows_before p start) in let some = some_processors in omega (arith, some, long)

    table_next : IsTableUpTo p start → IsTableUpTo p end
    table_next t = record {
      table = subst (λ (lanes : List (List Row)). IsTable lanes) (sym lanes_next)
          (IsTable-with_round (lanes_at p start) (rows_of_round p start end) t.table same_width (subst (λ n. IsRound n (rows_of_round p start end))
          (sym t.ends) round));
      ends = ap end_of lanes_next
          ∙ end_of-with_round (lanes_at p start) (rows_of_round p start end) end same_width some_lanes
          (λ row at. ap (λ (x : Row). x.end) (round_get p.set.tasks p.tree start end 0 row at));
    }

  table_last : IsTableUpTo p (stop_of p)
  table_last = at_stop p (IsTableUpTo p) (λ start end r. table_next start end r) (stop_of p) 0 (omega arith) (omega arith) (inr (event_first p)) table_first

  pub plan_table : IsTable (lanes_of p.tree.processors (schedule_of p))
  plan_table = table_last.table

-- ---- rows as they are read

unread_all : (P Q : Row → Type 0) (rows : List Row) → ((r : Row) → P (row_as_read r) → Q r) → AllByRecursion P (map row_as_read rows) → AllByRecursion Q rows
unread_all P Q [] by each = tt
unread_all P Q (r ∷ rows) by each = (by r each.0, unread_all P Q rows by each.1)

unread_apart : (P Q : Row → Row → Type 0) (rows : List Row) → ((r q : Row) → P (row_as_read r) (row_as_read q) → Q r q) → AllApart P (map row_as_read rows)
    → AllApart Q rows
unread_apart P Q [] by apart = tt
unread_apart P Q (r ∷ rows) by apart = (unread_all (P (row_as_read r)) (Q r) rows (λ q. by r q) apart.0, unread_apart P Q rows by apart.1)

ticks_unread : (rows : List Row) (j x y : ℕ) → task_ticks rows j x y ≡ task_ticks (map row_as_read rows) j x y
ticks_unread [] j x y = refl
ticks_unread (r ∷ rows) j x y =
    let rest = ticks_unread rows j x y in
    let here = ap (λ (b : Bool). bit b * overlap r.start r.end x y) (of_task_again j r.leaf) in
    omega (arith, rest, here)

-- rows are valid where they are as reading them gives them
unread_valid : (s : SetContents) (scale horizon stop : ℕ) (rows : List Row) → IsValid s scale horizon stop (map row_as_read rows) → IsValid s scale horizon
    stop rows
unread_valid s scale horizon stop rows valid = record {
  bounded = unread_all (λ r. (r.processor < s.processors) × (r.end ≤ stop)) (λ r. (r.processor < s.processors) × (r.end ≤ stop)) rows (λ r is. is)
      valid.bounded;
  processors_apart = unread_apart (λ r q. r.processor ≡ q.processor → DontOverlap r q) (λ r q. r.processor ≡ q.processor → DontOverlap r q) rows
      (λ r q apart same. apart same) valid.processors_apart;
  tasks_apart = unread_apart (λ r q. (j : ℕ) → is_of_task j r.leaf ≡ true → is_of_task j q.leaf ≡ true → DontOverlap r q)
      (λ r q. (j : ℕ) → is_of_task j r.leaf ≡ true → is_of_task j q.leaf ≡ true → DontOverlap r q) rows
      (λ r q apart j is is'. apart j (of_task_again j r.leaf ∙ is) (of_task_again j q.leaf ∙ is')) valid.tasks_apart;
  full = λ j k within ended.
      ticks_unread rows j (period_start scale (task_at s.tasks j) k) (period_start scale (task_at s.tasks j) (k + 1)) ∙ valid.full j k within ended;
  no_more = λ j k within.
      let e = ticks_unread rows j (period_start scale (task_at s.tasks j) k) (period_start scale (task_at s.tasks j) (k + 1)) in
      let most = valid.no_more j k within in
      omega (arith, e, most);
  released = unread_all (λ r. (j : ℕ) → j < length s.tasks → is_of_task j r.leaf ≡ true → (task_at s.tasks j).offset * scale ≤ r.start)
      (λ r. (j : ℕ) → j < length s.tasks → is_of_task j r.leaf ≡ true → (task_at s.tasks j).offset * scale ≤ r.start) rows
      (λ r own j within is. own j within (of_task_again j r.leaf ∙ is)) valid.released;
}

-- ---- a plan's rows, each processor's merged

pub plan_merged_valid : (p : PlanContents) → HasTree p
    → IsValid p.set p.tree.scale (stop_of p) (stop_of p) (all_rows (map merged (lanes_of p.tree.processors (schedule_of p))))
plan_merged_valid p h =
    let lanes = lanes_of p.tree.processors (schedule_of p) in
    let table = plan_table p h in
    let rows = lanes_valid p.set p.tree.scale (stop_of p) (stop_of p) (schedule_of p) (set_valid p.set h.lawful p.tree h.tree) lanes
    (ap (λ m. lanes_of m (schedule_of p)) h.tree.processors) table in
    subst (λ (rs : List Row). IsValid p.set p.tree.scale (stop_of p) (stop_of p) rs) (sym (all_merged lanes))
    (unread_valid p.set p.tree.scale (stop_of p) (stop_of p) (merged_lanes lanes)
    (merged_valid p.set p.tree.scale (stop_of p) (stop_of p) lanes table rows))
