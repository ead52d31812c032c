-- Events come again.
use Rattle.std.proofs.Common.{Bool, List, ap, ap₂, arith, eqb, false, inl, inr, length, not, refl, sym, true, zero, suc, ℕ, ◌%◌, ◌&&◌, ◌*◌, ◌+◌, ◌/◌}
use Rattle.std.proofs.Common.{◌<◌, ◌^◌, ◌||◌, ◌∙◌, ◌≡◌, ◌≤◌}
use Rattle.std.specs.List.{list_any, range_with_len}
use Rattle.std.proofs.lemmas.Bool.{cases_Bool, ne_eqb}
use native.Mathlib.Nat.{add-mul-mod_self_right}
use Rattle.sched_base.specs.declared.rows.Leaf.{Leaf}
use Rattle.sched_base.specs.declared.rows.Leaf.TheVariants.{Empty, Idle, Task, Wait}
use Rattle.sched_base.specs.declared.sets.Task as declared
use Rattle.run_tree.specs.Boundaries.{set_boundary}
use Rattle.run_tree.specs.Rounds.{is_event, is_task, runs_dry, task_begins}
use Rattle.run_tree.specs.Runs.{runs}
use Rattle.run_tree.specs.Tree.{IsMember, Tree, is_leaf, is_pack, kind_at, leaf}
use Rattle.run_tree.specs.TreeOfSet.{is_idle}
use Rattle.run_tree.proofs.RunLemmas.{left_at}
use Rattle.hyperperiod_laws.proofs.IdleLeaves.{Recurs, idle_left, idle_or_busy, unit_order}
use Rattle.hyperperiod_laws.proofs.LaterLeaves.{task_leaf_later}
use Rattle.hyperperiod_laws.proofs.LaterRuns.{busy_left, early_unit, runs_again}
use Rattle.hyperperiod_laws.proofs.LaterWindows.{unit_later}

-- tests that agree on the numbers of a range
pub any_range : (f g : ℕ → Bool) (a n : ℕ) → ((i : ℕ) → a ≤ i → i < a + n → f i ≡ g i) → list_any f (range_with_len a n) ≡ list_any g (range_with_len a n)
any_range f g a zero same = refl
any_range f g a (suc n) same = ap₂ (λ (x y : Bool). x || y) (same a (omega arith) (omega arith)) (any_range f g (a + 1) n
    (λ i low high. same i (omega (arith, low)) (omega (arith, high))))

busy_task : (l : Leaf) → is_task l ≡ true → is_idle l ≡ false
busy_task (Task id) e = refl
busy_task (Wait id) e = refl
busy_task (Idle number) e = sym e
busy_task Empty e = refl

module _ (tasks : List declared.Task) (t : Tree) (units start : ℕ) (r : Recurs tasks t units start) where
  -- what is left comes again, or is something at both ticks
  left_later : (n : ℕ) → start ≤ n → n + 2 * (units * t.scale) < 2 ^ 33 * t.scale → (x : ℕ) → IsMember t x →
      eqb (left_at (set_boundary tasks) t (n + units * t.scale) x) 0 ≡ eqb (left_at (set_boundary tasks) t n x) 0
  left_later n after early x i =
      let low = early_unit tasks t units start r n early in
      elim (idle_or_busy tasks t units start r x i) [
        | inl idle ↦
            (let unit = unit_later n units t.scale r.tree.scaled in
            let here = idle_left tasks t units start r x idle.0 idle.1 n after (omega (arith, low)) in
            let there = idle_left tasks t units start r x idle.0 idle.1 (n + units * t.scale) (omega (arith, after)) (omega (arith, low, unit)) in
            ne_eqb (left_at (set_boundary tasks) t (n + units * t.scale) x) 0 (λ z. omega (arith, z, there))
            ∙ sym (ne_eqb (left_at (set_boundary tasks) t n x) 0 (λ z. omega (arith, z, here))))
        | inr busy ↦ ap (λ w. eqb w 0) (busy_left tasks t units start r n after low (λ m y a l b. runs_again tasks t units start r m y a
            (omega (arith, l, early)) b) x i busy.0 busy.1)
      ]

  begins_again : (n x : ℕ) → start ≤ n → x < length t.nodes → task_begins (set_boundary tasks) t (n + units * t.scale) x ≡ task_begins (set_boundary tasks)
      t n x
  begins_again n x after l = elim (cases_Bool (is_leaf (kind_at t x))) [
    | inr off ↦ ap (λ (b : Bool). b && is_task (leaf t x) && set_boundary tasks (leaf t x) ((n + units * t.scale) / t.scale)) off
        ∙ sym (ap (λ (b : Bool). b && is_task (leaf t x) && set_boundary tasks (leaf t x) (n / t.scale)) off)
    | inl on ↦ elim (cases_Bool (is_task (leaf t x))) [
      | inr other ↦ ap (λ (b : Bool). is_leaf (kind_at t x) && b && set_boundary tasks (leaf t x) ((n + units * t.scale) / t.scale)) other
          ∙ ap (λ (b : Bool). b && false && set_boundary tasks (leaf t x) ((n + units * t.scale) / t.scale)) on
          ∙ sym (ap (λ (b : Bool). is_leaf (kind_at t x) && b && set_boundary tasks (leaf t x) (n / t.scale)) other
          ∙ ap (λ (b : Bool). b && false && set_boundary tasks (leaf t x) (n / t.scale)) on)
      | inl task ↦ ap (λ (b : Bool). is_leaf (kind_at t x) && is_task (leaf t x) && b)
          (ap (set_boundary tasks (leaf t x)) (unit_later n units t.scale r.tree.scaled)
          ∙ task_leaf_later tasks t r.tree r.holds units (start / t.scale) r.released r.whole x (l, on) (busy_task (leaf t x) task) (n / t.scale)
          (unit_order start n t.scale r.tree.scaled after))
    ]
  ]

  dry_again : (n x : ℕ) → start ≤ n → suc n + 2 * (units * t.scale) < 2 ^ 33 * t.scale → x < length t.nodes → runs_dry (set_boundary tasks) t
      (n + units * t.scale) x ≡ runs_dry (set_boundary tasks) t n x
  dry_again n x after early l = elim (cases_Bool (is_pack (kind_at t x))) [
    | inl on ↦ ap (λ (b : Bool). not b && runs (set_boundary tasks) t x (n + units * t.scale) && eqb (left_at (set_boundary tasks) t
        (suc (n + units * t.scale)) x) 0) on
        ∙ sym (ap (λ (b : Bool). not b && runs (set_boundary tasks) t x n && eqb (left_at (set_boundary tasks) t (suc n) x) 0) on)
    | inr off ↦
        (let e : suc (n + units * t.scale) ≡ suc n + units * t.scale = omega arith in
        ap₂ (λ (a b : Bool). not (is_pack (kind_at t x)) && a && b) (runs_again tasks t units start r n x after (omega (arith, early)) l)
        (ap (λ m. eqb (left_at (set_boundary tasks) t m x) 0) e ∙ left_later (suc n) (omega (arith, after)) early x (l, off)))
  ]

  next_event : (n : ℕ) → start ≤ n → suc n + 2 * (units * t.scale) < 2 ^ 33 * t.scale → is_event (set_boundary tasks) t (suc (n + units * t.scale))
      ≡ is_event (set_boundary tasks) t (suc n)
  unfolding is_event
  next_event n after early =
      let e : suc (n + units * t.scale) ≡ suc n + units * t.scale = omega arith in
      ap₂ (λ (a b : Bool). a || b)
      (ap₂ (λ (a b : Bool). a && b)
      (ap (λ w. eqb (w % t.scale) 0) e ∙ ap (λ w. eqb w 0) (add-mul-mod_self_right (suc n) units t.scale))
      (ap (λ w. list_any (λ x. task_begins (set_boundary tasks) t w x) (range_with_len 0 (length t.nodes))) e
      ∙ any_range (λ x. task_begins (set_boundary tasks) t (suc n + units * t.scale) x) (λ x. task_begins (set_boundary tasks) t (suc n) x) 0
      (length t.nodes) (λ x a b. begins_again (suc n) x (omega (arith, after)) (omega (arith, b)))))
      (any_range (λ x. runs_dry (set_boundary tasks) t (n + units * t.scale) x) (λ x. runs_dry (set_boundary tasks) t n x) 0 (length t.nodes)
      (λ x a b. dry_again n x after early (omega (arith, b))))

  -- a tick after `start` is an event where the one so many units later is
  pub event_again : (n : ℕ) → start < n → n + 2 * (units * t.scale) < 2 ^ 33 * t.scale → is_event (set_boundary tasks) t (n + units * t.scale) ≡ is_event
      (set_boundary tasks) t n
  event_again zero some early = absurd (omega (arith, some))
  event_again (suc n) some early =
      let e : suc n + units * t.scale ≡ suc (n + units * t.scale) = omega arith in
      ap (is_event (set_boundary tasks) t) e ∙ next_event n (omega (arith, some)) early
