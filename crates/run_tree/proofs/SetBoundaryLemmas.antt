-- The boundaries of the leaves of a set's tree.
use Rattle.std.proofs.Common.{List, [], ap, arith, div-add-mod', eq-eqb, eqb, false, inl, inr, le-leb, le_refl, leb, length, mod-eq_of_lt, mod-lt}
use Rattle.std.proofs.Common.{refl, suc, sym, true, zero, ℕ, ◌%◌, ◌&&◌, ◌*◌, ◌+◌, ◌-◌, ◌/◌, ◌<◌, ◌^◌, ◌∙◌, ◌∷◌, ◌≡◌, ◌≤◌}
use Rattle.std.proofs.lemmas.Bool.{and_from, both_ways, cases_lt, ne_eqb, or_left, or_right}
use Rattle.std.specs.List.{AllByRecursion}
use native.Mathlib.Nat.{mul-mod_left}
use Rattle.sched_base.specs.declared.rows.Leaf.{Leaf}
use Rattle.sched_base.specs.declared.rows.Leaf.TheVariants.{Empty, Idle, Task, Wait}
use Rattle.sched_base.specs.Sets.{IsLawfulTask, task_at}
use Rattle.run_tree.specs.Windows.{HasBoundaries}
use Rattle.run_tree.specs.Tree.{Tree, leaf}
use Rattle.sched_base.specs.Boundaries.{task_boundary}
use Rattle.run_tree.specs.Boundaries.{HaveBoundaries, set_boundary}
use Rattle.run_tree.specs.TreeOfSet.{HoldsTasks, is_real}
use Rattle.sched_base.specs.declared.sets.Task as declared

-- a multiple
pub mod_itself : (k n : ℕ) → eqb (k * n % n) 0 ≡ true
mod_itself k n = eq-eqb (k * n % n) 0 (mul-mod_left k n)

-- the multiples of a number are boundaries
pub multiples : (n : ℕ) → 0 < n → n ≤ 2 ^ 33 → HasBoundaries (λ u. eqb (u % n) 0)
multiples n p q = record {
  first = (let e : 0 * n ≡ 0 = omega arith in ap (λ z. eqb (z % n) 0) (sym e) ∙ mod_itself 0 n);
  later = λ u. (let d = div-add-mod' u n in let m = mod-lt u p in
      ((u / n + 1) * n, omega (arith, d, m), omega (arith, d, m, q), mod_itself (u / n + 1) n));
}

-- a task's periods begin at boundaries
pub offset_at : (task : declared.Task) (k : ℕ) → task_boundary task (task.offset + k * task.period) ≡ true
offset_at task k =
    let e : task.offset + k * task.period - task.offset ≡ k * task.period = omega arith in
    or_right (eqb (task.offset + k * task.period) 0) (leb task.offset (task.offset + k * task.period) && eqb ((task.offset + k * task.period - task.offset)
    % task.period) 0)
    (and_from (leb task.offset (task.offset + k * task.period)) (eqb ((task.offset + k * task.period - task.offset) % task.period) 0)
    (le-leb task.offset (task.offset + k * task.period) (omega arith))
    (eq-eqb ((task.offset + k * task.period - task.offset) % task.period) 0 (ap (λ x. x % task.period) e ∙ mul-mod_left k task.period)))

-- 0, the offset, and a period after each further one
pub offset_multiples : (task : declared.Task) → 0 < task.period → task.period ≤ 2 ^ 33 → task.offset ≤ 2 ^ 33 → HasBoundaries (task_boundary task)
offset_multiples task p q r = record {
  first = or_left (eqb 0 0) (leb task.offset 0 && eqb ((0 - task.offset) % task.period) 0) (eq-eqb 0 0 refl);
  later = λ u. elim (cases_lt u task.offset) [
    | inl l ↦ (task.offset + 0 * task.period, omega (arith, l), omega (arith, r), offset_at task 0)
    | inr l ↦
        (let d = div-add-mod' (u - task.offset) task.period in
        let m = mod-lt (u - task.offset) p in (
          task.offset + ((u - task.offset) / task.period + 1) * task.period,
          omega (arith, d, m, l),
          omega (arith, d, m, q, l),
          offset_at task ((u - task.offset) / task.period + 1),
        ))
  ];
}

-- offsets and periods are within the limit of boundaries
pub two_limits : 2 ^ 32 ≤ 2 ^ 33
two_limits = omega arith

-- each task of a lawful set is lawful
pub each_lawful : (tasks : List declared.Task) (j : ℕ) → AllByRecursion IsLawfulTask tasks → j < length tasks → IsLawfulTask (task_at tasks j)
each_lawful [] j h l = absurd (omega arith)
each_lawful (task ∷ tasks) zero h l = h.0
each_lawful (task ∷ tasks) (suc j) h l = each_lawful tasks j h.1 (omega arith)

module _ (tasks : List declared.Task) (each : AllByRecursion IsLawfulTask tasks) (t : Tree) (holds : HoldsTasks tasks t) where
  -- the leaves of a set's tree have boundaries
  pub set_leaves : HaveBoundaries (set_boundary tasks) t
  set_leaves x i = go (leaf t x) refl
    where
      go : (l : Leaf) → leaf t x ≡ l → HasBoundaries (set_boundary tasks l)
      go (Task id) e =
          (let lawful = each_lawful tasks id.0 each (holds.known x id i e) in
          let work = lawful.some_work in
          let fits = lawful.work_fits in
          let period = lawful.period_fits in
          let offset = lawful.offset_fits in
          offset_multiples (task_at tasks id.0) (omega (arith, work, fits)) (omega (arith, period, two_limits)) (omega (arith, offset, two_limits)))
      go (Wait id) e = absurd (both_ways (is_real (leaf t x)) (ap is_real e) (holds.real x i))
      go (Idle number) e = multiples (2 ^ 33) (omega arith) (le_refl (2 ^ 33))
      go Empty e = absurd (both_ways (is_real (leaf t x)) (ap is_real e) (holds.real x i))

-- an idle leaf has no boundary from unit 1 up to unit 2 ^ 33
pub idle_late : (tasks : List declared.Task) (number u : ℕ) → 0 < u → u < 2 ^ 33 → set_boundary tasks (Idle number) u ≡ false
idle_late tasks number u p q = ne_eqb (u % 2 ^ 33) 0 (λ z. let e : u % 2 ^ 33 ≡ u = mod-eq_of_lt q in omega (arith, z, e, p))
