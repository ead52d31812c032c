-- The rows of a schedule give a task the ticks in which its leaf runs.
use Rattle.std.proofs.Common.{List, None, Option, Some, [], ap, arith, false, filter, get_or, inl, inr, refl, subst, suc, sym, true, zero, ℕ, ◌*◌}
use Rattle.std.proofs.Common.{◌+◌, ◌-◌, ◌<◌, ◌^◌, ◌∙◌, ◌∷◌, ◌≡◌, ◌≤◌}
use Rattle.std.proofs.lemmas.Bool.{both_ways, cases_Bool, cases_eq, cases_lt}
use Rattle.std.specs.List.{range_with_len}
use Rattle.sched_base.specs.declared.rows.Leaf.TheVariants.{Task}
use Rattle.sched_base.specs.Counting.{bit}
use Rattle.sched_base.specs.Sets.{task_at}
use Rattle.sched_base.specs.Rows.{is_of_task, overlap, task_ticks}
use Rattle.sched_base.proofs.ListLemmas.{passing_off, passing_on}
use Rattle.sched_base.proofs.HeldLemmas.{sum_on, sum_on-same}
use Rattle.sched_base.proofs.RowLemmas.{task_ticks-append}
use Rattle.sched_base.proofs.OverlapLemmas.{in_round, in_ticks}
use Rattle.run_tree.specs.Tree.{IsLeaf, IsTree, Tree, kind_at, leaf}
use Rattle.run_tree.specs.Boundaries.{HaveBoundaries, set_boundary}
use Rattle.run_tree.specs.Runs.{runs}
use Rattle.run_tree.specs.Rounds.{is_event}
use Rattle.run_tree.specs.Schedule.{onto_at, packs_at, round_rows, rows_from, rows_of, rows_of_events, schedule, shown}
use Rattle.run_tree.specs.TreeOfSet.{HoldsTasks, task_id}
use Rattle.run_tree.proofs.KindLemmas.{not_pack_leaf}
use Rattle.run_tree.proofs.SetBoundaryLemmas.{idle_late}
use Rattle.sched_laws.proofs.Steady.{member_still}
use Rattle.sched_laws.proofs.TaskRows.{leaf_in, task_on}
use Rattle.sched_laws.proofs.QuietTicks.{calm_quiet, calm_unspent}
use Rattle.sched_laws.proofs.RoundRows.{round_is}
use Rattle.sched_laws.proofs.Releases.{release_event, shown_same}
use Rattle.sched_base.specs.declared.sets.Task as declared

-- the rows of a round from processor p on give task j its ticks for each processor that shows it
pub rows_ticks : (tasks : List declared.Task) (t : Tree) (s e j a b p : ℕ) (onto : List (Option ℕ)) →
    task_ticks (rows_from tasks t s e p onto) j a b ≡ sum_on
    (λ i. bit (is_of_task j (shown tasks t.scale s (leaf_in (set_boundary tasks) t s (get_or (packs_at t 0) i 0))))) onto * overlap s e a b
rows_ticks tasks t s e j a b p [] = omega arith
rows_ticks tasks t s e j a b p (None ∷ onto) = let ih = rows_ticks tasks t s e j a b (suc p) onto in omega (arith, ih)
rows_ticks tasks t s e j a b p (Some i ∷ onto) = let ih = rows_ticks tasks t s e j a b (suc p) onto in omega (arith, ih)

module _ (tasks : List declared.Task) (t : Tree) (h : IsTree t) (leaves : HaveBoundaries (set_boundary tasks) t) (holds : HoldsTasks tasks t)
    (x j : ℕ) (is_x : IsLeaf t x) (of_x : leaf t x ≡ Task (task_id j)) where
  -- task j runs on one processor where its leaf runs, else on none
  pub task_once : (n : ℕ) → sum_on (λ i. bit (is_of_task j (leaf_in (set_boundary tasks) t n (get_or (packs_at t 0) i 0)))) (onto_at (set_boundary tasks) t
      n) ≡ bit (runs (set_boundary tasks) t x n)
  task_once n = task_on (set_boundary tasks) t h leaves x j is_x of_x (λ y i of_y. holds.once y x (task_id j) i is_x of_y of_x) n

  module _ (a b : ℕ) (from : (task_at tasks j).offset * t.scale ≤ a) where
    -- a round that the offset doesn't cut gives task j its ticks from a up to b, where the leaf runs
    pub round_ticks : (s e : ℕ) → (s < (task_at tasks j).offset * t.scale → e ≤ (task_at tasks j).offset * t.scale) →
        task_ticks (round_rows tasks t s e) j a b ≡ bit (runs (set_boundary tasks) t x s) * overlap s e a b
    round_ticks s e cut =
        let onto = onto_at (set_boundary tasks) t s in
        let shows : ℕ → ℕ = λ i. bit (is_of_task j (shown tasks t.scale s (leaf_in (set_boundary tasks) t s (get_or (packs_at t 0) i 0)))) in
        let has : ℕ → ℕ = λ i. bit (is_of_task j (leaf_in (set_boundary tasks) t s (get_or (packs_at t 0) i 0))) in
        let rows : task_ticks (round_rows tasks t s e) j a b ≡ sum_on shows onto * overlap s e a b =
        ap (λ rs. task_ticks rs j a b) (round_is tasks t s e) ∙ rows_ticks tasks t s e j a b 0 onto in
        elim (cases_lt s ((task_at tasks j).offset * t.scale)) [
          | inr late ↦ rows ∙ ap (λ w. w * overlap s e a b)
              (sum_on-same shows has onto (λ i. ap bit (shown_same tasks t.scale s j (leaf_in (set_boundary tasks) t s (get_or (packs_at t 0) i 0)) late))
              ∙ task_once s)
          | inl early ↦
              (let ends = cut early in
              let none : overlap s e a b ≡ 0 = omega (arith, ends, from) in
              omega (arith, rows, ap (λ o. sum_on shows onto * o) none, ap (λ o. bit (runs (set_boundary tasks) t x s) * o) none))
        ]

    module _ (stop : ℕ) (early : stop ≤ 2 ^ 33 * t.scale) where
      -- from the round that began at s on, where no event came up to m
      pub rows_total : (n m s : ℕ) → m + n ≡ stop → s < m → (s < (task_at tasks j).offset * t.scale → m ≤ (task_at tasks j).offset * t.scale) →
          ((k : ℕ) → s ≤ k → k < m → runs (set_boundary tasks) t x k ≡ runs (set_boundary tasks) t x s) →
          task_ticks (rows_of tasks t stop s (filter (is_event (set_boundary tasks) t) (range_with_len m n))) j a b + in_ticks (runs (set_boundary tasks) t
          x) a b s
          ≡ in_ticks (runs (set_boundary tasks) t x) a b stop
      rows_total zero m s e l cut same =
          let r = round_ticks s stop (λ low. let c = cut low in omega (arith, c, e)) in
          let i = in_round (runs (set_boundary tasks) t x) a b s stop (omega arith) (λ k p q. same k p (omega arith)) in
          omega (arith, r, i)
      rows_total (suc n) m s e l cut same =
          elim (cases_Bool (is_event (set_boundary tasks) t m)) [
            | inl on ↦
                (let rest = rows_total n (m + 1) m (omega arith) (omega arith) (λ low. omega (arith, low)) (λ k p q. ap (runs (set_boundary tasks) t x)
                (omega arith)) in
                let list = ap (λ events. task_ticks (rows_of tasks t stop s events) j a b) (passing_on (is_event (set_boundary tasks) t) m n on) in
                let parts = task_ticks-append (round_rows tasks t s m) (rows_of tasks t stop m (filter (is_event (set_boundary tasks) t)
                (range_with_len (m + 1) n))) j a b in
                let r = round_ticks s m cut in
                let i = in_round (runs (set_boundary tasks) t x) a b s m (omega arith) same in
                omega (arith, rest, list, parts, r, i))
            | inr off ↦
                (let list = ap (λ events. task_ticks (rows_of tasks t stop s events) j a b) (passing_off (is_event (set_boundary tasks) t) m n off) in
                let longer : (k : ℕ) → s ≤ k → k < m + 1 → runs (set_boundary tasks) t x k ≡ runs (set_boundary tasks) t x s = (λ k p q.
                elim (cases_lt k m) [
                  | inl below ↦ same k p below
                  | inr at ↦ (let is : k ≡ m = omega arith in ap (runs (set_boundary tasks) t x) is ∙ next m l off (omega arith) (same (m - 1) (omega arith)
                      (omega arith)))
                ]) in
                let rest = rows_total n (m + 1) s (omega arith) (omega arith) (uncut m s off cut) longer in
                omega (arith, list, rest))
          ]
        where
          next : (m : ℕ) → s < m → is_event (set_boundary tasks) t m ≡ false → m < stop → runs (set_boundary tasks) t x (m - 1) ≡ runs (set_boundary tasks)
              t x s → runs (set_boundary tasks) t x m ≡ runs (set_boundary tasks) t x s
          next zero l off top before = absurd (omega arith)
          next (suc p) l off top before =
              (let e : suc p - 1 ≡ p = omega arith in
              let before' : runs (set_boundary tasks) t x p ≡ runs (set_boundary tasks) t x s = sym (ap (runs (set_boundary tasks) t x) e) ∙ before in
              let top' : suc p < 2 ^ 33 * t.scale = omega arith in
              member_still (set_boundary tasks) t h leaves p
              (calm_quiet (set_boundary tasks) t h (idle_late tasks) holds.real p top' off)
              (calm_unspent (set_boundary tasks) t h (idle_late tasks) holds.real p top' off)
              x (is_x.0, not_pack_leaf (kind_at t x) is_x.1)
              ∙ before')

          -- the offset is an event, so that a round without one up to m ends no sooner
          uncut : (m s : ℕ) → is_event (set_boundary tasks) t m ≡ false → (s < (task_at tasks j).offset * t.scale → m ≤ (task_at tasks j).offset * t.scale) →
              s < (task_at tasks j).offset * t.scale → m + 1 ≤ (task_at tasks j).offset * t.scale
          uncut m s off cut low = elim (cases_eq m ((task_at tasks j).offset * t.scale)) [
            | inl same ↦ absurd (let P : ℕ → Type 0 = λ z. is_event (set_boundary tasks) t z ≡ true in
                both_ways (is_event (set_boundary tasks) t m) off (subst P (sym same) (release_event tasks t h x j is_x of_x)))
            | inr ne ↦ (let c = cut low in omega (arith, c, ne))
          ]

      -- the rows of the schedule give the task what its leaf ran
      pub schedule_ticks : task_ticks (schedule tasks t stop) j a b ≡ in_ticks (runs (set_boundary tasks) t x) a b stop
      unfolding schedule is_event
      schedule_ticks = go stop refl
        where
          go : (n : ℕ) → stop ≡ n → task_ticks (rows_of_events tasks t stop (filter (is_event (set_boundary tasks) t) (range_with_len 0 n))) j a
              b ≡ in_ticks (runs (set_boundary tasks) t x) a b stop
          go zero e = sym (ap (in_ticks (runs (set_boundary tasks) t x) a b) e)
          go (suc n) e = (let r = rows_total n (0 + 1) 0 (omega (arith, e)) (omega arith) (λ low. omega (arith, low))
              (λ k p q. ap (runs (set_boundary tasks) t x) (omega arith)) in omega (arith, r))
