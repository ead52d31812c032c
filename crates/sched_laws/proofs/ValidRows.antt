-- The schedule is valid.
use Rattle.std.proofs.Common.{Bool, List, None, Option, Some, [], ap, arith, false, get_or, inl, inr, le_refl, length, mul-le-mul_right, refl, suc}
use Rattle.std.proofs.Common.{sym, true, ℕ, ◌&&◌, ◌*◌, ◌+◌, ◌<◌, ◌^◌, ◌∙◌, ◌∷◌, ◌≡◌, ◌≤◌}
use Rattle.std.proofs.lemmas.Bool.{and_from, and_parts, both_ways, cases_Bool, cases_lt}
use Rattle.std.specs.List.{AllByRecursion}
use Rattle.sched_base.specs.declared.rows.Leaf.{Leaf}
use Rattle.sched_base.specs.declared.rows.Leaf.TheVariants.{Task}
use Rattle.sched_base.specs.Counting.{bit, ticks}
use Rattle.sched_base.specs.Sets.{IsLawful, SetContents, task_at}
use Rattle.sched_base.specs.Scale.{IsScale}
use Rattle.sched_base.specs.Rows.{AllApart, DontOverlap, is_of_task, task_ticks}
use Rattle.sched_base.specs.Valid.{IsValid, period_start}
use Rattle.sched_base.proofs.CountingLemmas.{bit_at, bit_le, bit_off, find_below}
use Rattle.sched_base.proofs.SumLemmas.{sum_to-zero}
use Rattle.sched_base.proofs.HeldLemmas.{held, sum_on, sum_on_packs}
use Rattle.sched_base.proofs.RowLemmas.{AllApart-by, AllByRecursion-by, AllByRecursion-each, is_of_task_same}
use Rattle.sched_base.proofs.OverlapLemmas.{in_ticks, in_ticks_all, in_ticks_some}
use Rattle.sched_base.proofs.RateLemmas.{rate_exact}
use Rattle.run_tree.specs.Windows.{window_begin}
use Rattle.run_tree.specs.Tree.{IsLeaf, IsMember, IsPack, IsTree, Tree, is_leaf, kind_at, leaf, member, rate}
use Rattle.run_tree.specs.Boundaries.{HaveBoundaries, is_boundary, set_boundary}
use Rattle.run_tree.specs.Runs.{runs}
use Rattle.run_tree.specs.Schedule.{leaf_on, onto_at, packs_at, round_rows, rows_from, schedule, shown}
use Rattle.run_tree.specs.TreeOfSet.{HoldsTasks, IsTreeOf, task_id}
use Rattle.run_tree.proofs.KindLemmas.{leaf_of_task, not_pack_leaf}
use Rattle.run_tree.proofs.WindowLemmas.{begin_is, same_IsBegin}
use Rattle.run_tree.proofs.TreeLemmas.{first_is_pack}
use Rattle.run_tree.proofs.BoundaryLemmas.{bound_leaf, member_has}
use Rattle.run_tree.proofs.SetBoundaryLemmas.{offset_at, set_leaves, two_limits}
use Rattle.run_tree.proofs.ScheduleLemmas.{length-places, onto_is}
use Rattle.sched_laws.specs.Servers.{due}
use Rattle.sched_laws.proofs.LevelRates.{member_total}
use Rattle.sched_laws.proofs.PlacedPacks.{onto_within}
use Rattle.sched_laws.proofs.TaskRows.{leaf_in, leaf_in_runs}
use Rattle.sched_laws.proofs.RoundRows.{rows_from_all, rows_from_apart, schedule_all, schedule_apart}
use Rattle.sched_laws.proofs.Releases.{shown_task}
use Rattle.sched_laws.proofs.TaskTicks.{schedule_ticks, task_once}
use Rattle.sched_base.specs.declared.sets.Task as declared

-- up to a boundary of its leaf a task runs its rate
pub leaf_total : (of_leaf : Leaf → ℕ → Bool) (t : Tree) (h : IsTree t) (leaves : HaveBoundaries of_leaf t) (x u : ℕ) → IsLeaf t x →
    of_leaf (leaf t x) u ≡ true → ticks (runs of_leaf t x) (u * t.scale) ≡ rate t x * u
leaf_total of_leaf t h leaves x u i e =
    let m : IsMember t x = (i.0, not_pack_leaf (kind_at t x) i.1) in
    let at : is_boundary of_leaf t x u ≡ true = bound_leaf of_leaf t h x i u ∙ e in
    let b = begin_is (is_boundary of_leaf t x) (member_has of_leaf t h leaves x m).first u in
    member_total of_leaf t h leaves x u m
    (same_IsBegin (is_boundary of_leaf t x) u (window_begin (is_boundary of_leaf t x) u) u b
    (record { below = le_refl u; here = at; last = λ v p q. absurd (omega arith) }))

module _ (tasks : List declared.Task) (t : Tree) (h : IsTree t) (leaves : HaveBoundaries (set_boundary tasks) t) (holds : HoldsTasks tasks t) where
  -- whether pack i of level 0 runs task j
  pub counts : ℕ → ℕ → ℕ → ℕ
  counts s j i = bit (is_of_task j (leaf_in (set_boundary tasks) t s (get_or (packs_at t 0) i 0)))

  -- where none counts, no row is of the task
  pub none_counts : (s e j p : ℕ) (onto : List (Option ℕ)) → sum_on (counts s j) onto ≡ 0 → AllByRecursion (λ q. is_of_task j q.leaf ≡ true → ⊥)
      (rows_from tasks t s e p onto)
  unfolding counts
  none_counts s e j p [] z = tt
  none_counts s e j p (None ∷ onto) z = ((λ b. both_ways false refl b), none_counts s e j (suc p) onto z)
  none_counts s e j p (Some i ∷ onto) z = (
    (λ b. (
        let l = leaf_in (set_boundary tasks) t s (get_or (packs_at t 0) i 0) in
        let o = bit_at (is_of_task j l) (shown_task tasks t.scale s j l b).0 in
        omega (arith, z, o))),
    none_counts s e j (suc p) onto (omega (arith, z)),
  )

  -- a task that runs on at most one processor stands in no two rows of a round
  pub tasks_apart : (s e p : ℕ) (onto : List (Option ℕ)) → ((j : ℕ) → sum_on (counts s j) onto ≤ 1) →
      AllApart (λ r q. (j : ℕ) → is_of_task j r.leaf ≡ true → is_of_task j q.leaf ≡ true → ⊥) (rows_from tasks t s e p onto)
  unfolding counts
  tasks_apart s e p [] f = tt
  tasks_apart s e p (None ∷ onto) f = (rows_from_all tasks t _ s e (suc p) onto (λ q k a b j x y. both_ways false refl x), tasks_apart s e (suc p) onto f)
  tasks_apart s e p (Some i ∷ onto) f = (
    AllByRecursion-each (λ j q. is_of_task j (shown tasks t.scale s (leaf_in (set_boundary tasks) t s (get_or (packs_at t 0) i 0))) ≡ true →
        is_of_task j q.leaf ≡ true → ⊥) (rows_from tasks t s e (suc p) onto)
        (λ j. elim (cases_Bool (is_of_task j (leaf_in (set_boundary tasks) t s (get_or (packs_at t 0) i 0)))) [
          | inl on ↦ AllByRecursion-by (λ q. is_of_task j q.leaf ≡ true → ⊥) _ (rows_from tasks t s e (suc p) onto) (λ q no_q x y. no_q y)
              (none_counts s e j (suc p) onto (let l = f j in let o = bit_at (is_of_task j (leaf_in (set_boundary tasks) t s (get_or (packs_at t 0) i 0)))
              on in omega (arith, l, o)))
          | inr off ↦ rows_from_all tasks t _ s e (suc p) onto (λ q k a b x y.
              both_ways (is_of_task j (leaf_in (set_boundary tasks) t s (get_or (packs_at t 0) i 0))) off (shown_task tasks t.scale s j
              (leaf_in (set_boundary tasks) t s (get_or (packs_at t 0) i 0)) x).0)
        ]),
    tasks_apart s e (suc p) onto (λ j. (let l = f j in omega (arith, l))),
  )

  -- a task counts at most once in a round
  pub counts_once : (s j : ℕ) → sum_on (counts s j) (onto_at (set_boundary tasks) t s) ≤ 1
  unfolding counts
  counts_once s j =
      elim (find_below (length t.nodes) (λ x. is_leaf (kind_at t x) && is_of_task j (leaf t x))) [
        | inl found ↦
            (let (x, b, passes) = found in
            let both = and_parts (is_leaf (kind_at t x)) (is_of_task j (leaf t x)) passes in
            let e = task_once tasks t h leaves holds x j (b, both.0) (is_of_task_same j (leaf t x) both.1) s in
            let one = bit_le (runs (set_boundary tasks) t x s) in
            omega (arith, e, one))
        | inr none ↦
            (let has : ℕ → ℕ = λ i. bit (is_of_task j (leaf_in (set_boundary tasks) t s (get_or (packs_at t 0) i 0))) in
            let e = sum_on_packs (length (packs_at t 0)) has (onto_at (set_boundary tasks) t s) (λ i some. (onto_within (set_boundary tasks) t h leaves s i
            some).0) in
            let z = sum_to-zero (length (packs_at t 0)) (λ i. held (onto_at (set_boundary tasks) t s) i * has i) (λ i l.
            elim (cases_lt 0 (held (onto_at (set_boundary tasks) t s) i)) [
              | inr nothing ↦ (let y : held (onto_at (set_boundary tasks) t s) i ≡ 0 = omega arith in omega (arith, ap (λ w. w * has i) y))
              | inl some ↦ elim (cases_Bool (is_of_task j (leaf_in (set_boundary tasks) t s (get_or (packs_at t 0) i 0)))) [
                | inr off ↦ (let y = bit_off (is_of_task j (leaf_in (set_boundary tasks) t s (get_or (packs_at t 0) i 0))) off in
                    omega (arith, ap (λ w. held (onto_at (set_boundary tasks) t s) i * w) y))
                | inl on ↦ absurd (some_leaf i l some on none)
              ]
            ]) in
            omega (arith, e, z))
      ]
    where
      some_leaf : (i : ℕ) → i < length (packs_at t 0) → 0 < held (onto_at (set_boundary tasks) t s) i →
          is_of_task j (leaf_in (set_boundary tasks) t s (get_or (packs_at t 0) i 0)) ≡ true →
          ((x : ℕ) → x < length t.nodes → (is_leaf (kind_at t x) && is_of_task j (leaf t x)) ≡ false) → ⊥
      some_leaf i l some on none =
          (let p = get_or (packs_at t 0) i 0 in
          let runs_p = (onto_within (set_boundary tasks) t h leaves s i some).1 in
          let is_p : IsPack t p = first_is_pack t h i l in
          let (k, lk, run, same) = leaf_in_runs (set_boundary tasks) t h leaves p s is_p runs_p in
          let y = member t p k in
          let b = (h.members_are p k is_p lk).0.0 in
          let task : leaf t y ≡ Task (task_id j) = sym same ∙ is_of_task_same j (leaf_in (set_boundary tasks) t s p) on in
          both_ways (is_leaf (kind_at t y) && is_of_task j (leaf t y)) (none y b)
          (and_from (is_leaf (kind_at t y)) (is_of_task j (leaf t y)) (leaf_of_task j (kind_at t y) task) (ap (λ z. is_of_task j z) (sym same) ∙ on)))

  -- no task stands twice in a round
  pub round_once : (s e : ℕ) → AllApart (λ r q. (j : ℕ) → is_of_task j r.leaf ≡ true → is_of_task j q.leaf ≡ true → ⊥) (round_rows tasks t s e)
  unfolding round_rows
  round_once s e = tasks_apart s e 0 (onto_at (set_boundary tasks) t s) (λ j. counts_once s j)

  -- each row of a round has its own processor
  pub round_apart : (s e : ℕ) → AllApart (λ r q. r.processor ≡ q.processor → DontOverlap r q) (round_rows tasks t s e)
  unfolding round_rows
  round_apart s e = rows_from_apart tasks t _ s e 0 (onto_at (set_boundary tasks) t s) (λ p q o o' less same. absurd (omega (arith, same, less)))

  module _ (stop : ℕ) where
    -- each row is on a processor, and ends in time
    pub all_bounded : AllByRecursion (λ r. (r.processor < t.processors) × (r.end ≤ stop)) (schedule tasks t stop)
    all_bounded = schedule_all tasks t stop _ (λ s e p up top b. (
      let l = length-places (set_boundary tasks) t (suc s) in
          let same = ap length (onto_is (set_boundary tasks) t s) in omega (arith, l, same, b),
      top,
    ))

    -- no processor runs two rows at once
    pub all_processors_apart : AllApart (λ r q. r.processor ≡ q.processor → DontOverlap r q) (schedule tasks t stop)
    all_processors_apart = schedule_apart tasks t stop _ (λ r q b same. inl b) round_apart

    -- no task runs on two processors at once
    pub all_tasks_apart : AllApart (λ r q. (j : ℕ) → is_of_task j r.leaf ≡ true → is_of_task j q.leaf ≡ true → DontOverlap r q) (schedule tasks t stop)
    all_tasks_apart = schedule_apart tasks t stop _ (λ r q b j x y. inl b)
        (λ s e. AllApart-by _ _ (round_rows tasks t s e) (λ r q none j x y. absurd (none j x y)) (round_once s e))

    -- no task runs before its offset
    pub all_released : AllByRecursion (λ r. (j : ℕ) → is_of_task j r.leaf ≡ true → (task_at tasks j).offset * t.scale ≤ r.start) (schedule tasks t stop)
    all_released = schedule_all tasks t stop _ (λ s e p up top b j task.
        (shown_task tasks t.scale s j (leaf_on (set_boundary tasks) t s (get_or (onto_at (set_boundary tasks) t s) p None)) task).1)

    -- the rows of a period, and what its leaf runs in it
    pub period_ticks : stop ≤ 2 ^ 33 * t.scale → IsScale tasks t.scale → (j k : ℕ) → j < length tasks → (x : ℕ) × IsLeaf t x ×
        (task_ticks (schedule tasks t stop) j (period_start t.scale (task_at tasks j) k) (period_start t.scale (task_at tasks j) (k + 1))
        ≡ in_ticks (runs (set_boundary tasks) t x) (period_start t.scale (task_at tasks j) k) (period_start t.scale (task_at tasks j) (k + 1)) stop)
        × (ticks (runs (set_boundary tasks) t x) (period_start t.scale (task_at tasks j) (k + 1))
        ≡ ticks (runs (set_boundary tasks) t x) (period_start t.scale (task_at tasks j) k) + (task_at tasks j).work * t.scale)
    period_ticks early scaled j k l =
        let (x, is_x, of_x, rated) = holds.has_task j l in
        let task = task_at tasks j in
        let at : (m : ℕ) → set_boundary tasks (leaf t x) ((task_at tasks j).offset + m * (task_at tasks j).period) ≡ true =
        (λ m. ap (λ z. set_boundary tasks z ((task_at tasks j).offset + m * (task_at tasks j).period)) of_x ∙ offset_at (task_at tasks j) m) in
        let low = leaf_total (set_boundary tasks) t h leaves x ((task_at tasks j).offset + k * (task_at tasks j).period) is_x (at k) in
        let high = leaf_total (set_boundary tasks) t h leaves x ((task_at tasks j).offset + (k + 1) * (task_at tasks j).period) is_x (at (k + 1)) in
        let exact = ap (λ r. r * (task_at tasks j).period) rated ∙ rate_exact tasks t.scale scaled j l in (
          x,
          is_x,
          schedule_ticks tasks t h leaves holds x j is_x of_x (period_start t.scale (task_at tasks j) k) (period_start t.scale (task_at tasks j) (k + 1))
              (omega arith) stop early,
          omega (arith, low, high, exact),
        )

-- the schedule of each tree of a lawful set is valid
pub schedule_valid : (s : SetContents) → IsLawful s → (t : Tree) → IsTreeOf s t → (stop : ℕ) → stop ≤ 2 ^ 33 * t.scale → (horizon : ℕ) → horizon ≤ stop →
    IsValid s t.scale horizon stop (schedule s.tasks t stop)
schedule_valid s lawful t is stop early horizon l =
    let leaves = set_leaves s.tasks lawful.each t is.tasks in
    let same = is.processors in
    record {
      bounded = AllByRecursion-by _ _ (schedule s.tasks t stop) (λ r b. (let p = b.0 in omega (arith, p, same), b.1)) (all_bounded s.tasks t is.tree leaves
          is.tasks stop);
      processors_apart = all_processors_apart s.tasks t is.tree leaves is.tasks stop;
      tasks_apart = all_tasks_apart s.tasks t is.tree leaves is.tasks stop;
      full = λ j k b ends.
          (let (x, is_x, rows, due) = period_ticks s.tasks t is.tree leaves is.tasks stop early is.scale j k b in
          let all = in_ticks_all (runs (set_boundary s.tasks) t x) (period_start t.scale (task_at s.tasks j) k) (period_start t.scale (task_at s.tasks j)
          (k + 1)) stop (omega arith) (omega (arith, ends, l)) in
          omega (arith, rows, due, all));
      no_more = λ j k b.
          (let (x, is_x, rows, due) = period_ticks s.tasks t is.tree leaves is.tasks stop early is.scale j k b in
          let all = in_ticks_some (runs (set_boundary s.tasks) t x) (period_start t.scale (task_at s.tasks j) k) (period_start t.scale (task_at s.tasks j)
          (k + 1)) stop (omega arith) in
          omega (arith, rows, due, all));
      released = AllByRecursion-by _ _ (schedule s.tasks t stop) (λ r late j b task. late j task) (all_released s.tasks t is.tree leaves is.tasks stop);
    }

-- up to its horizon too
pub set_valid : (s : SetContents) → IsLawful s → (t : Tree) → IsTreeOf s t → IsValid s t.scale (s.horizon * t.scale) (s.horizon * t.scale)
    (schedule s.tasks t (s.horizon * t.scale))
set_valid s lawful t is =
    let fits = lawful.horizon_fits in
    schedule_valid s lawful t is (s.horizon * t.scale) (mul-le-mul_right t.scale (omega (arith, fits, two_limits))) (s.horizon * t.scale)
    (le_refl (s.horizon * t.scale))
