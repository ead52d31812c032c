-- The boundaries of a leaf, one after the other.
use Rattle.std.proofs.Common.{◌≡◌, ℕ, ◌+◌, ◌-◌, ◌*◌, ◌/◌, ◌%◌, ◌^◌, ◌<◌, ◌≤◌, ◌&&◌, ◌||◌, eqb, leb, Bool, List, false, ap, ap₂, arith, ◌∙◌}
use Rattle.std.proofs.Common.{div-add-mod', mod-lt}
use native.Mathlib.Nat.{div-eq_of_lt-le}
use Rattle.std.proofs.lemmas.Bool.{and_left, and_right, ne_eqb, lt-leb}
use Rattle.sched_base.specs.declared.rows.Leaf.TheVariants.{Idle}
use Rattle.sched_base.specs.declared.sets.Task as declared
use Rattle.sched_base.specs.Sets.{IsLawfulTask}
use Rattle.run_tree.specs.Windows.{window_end}
use Rattle.sched_base.specs.Boundaries.{task_boundary}
use Rattle.run_tree.specs.Boundaries.{set_boundary}
use Rattle.run_tree.proofs.WindowLemmas.{IsEnd, end_is, same_IsEnd}
use Rattle.run_tree.proofs.SetBoundaryLemmas.{offset_at, offset_multiples, multiples, mod_itself, idle_late}

pub no_boundary : (task : declared.Task) (v : ℕ) → 0 < v → (leb task.offset v && eqb ((v - task.offset) % task.period) 0) ≡ false → task_boundary task v ≡ false
no_boundary task v p e = ap₂ (λ (a b : Bool). a || b) (ne_eqb v 0 (λ z. omega (arith, z, p))) e

-- before the offset, it is the offset
pub end_before : (task : declared.Task) (u : ℕ) → u < task.offset → IsEnd (task_boundary task) u task.offset
end_before task u l = record {
  above = l;
  here = (let e : task.offset ≡ task.offset + 0 * task.period = omega arith in ap (task_boundary task) e ∙ offset_at task 0);
  first = λ v p q. no_boundary task v (omega arith) (and_left (leb task.offset v) (eqb ((v - task.offset) % task.period) 0) (lt-leb task.offset v q));
}

-- from the offset on, it is the end of the period
pub end_after : (task : declared.Task) (u : ℕ) → 0 < task.period → task.offset ≤ u → IsEnd (task_boundary task) u
    (task.offset + ((u - task.offset) / task.period + 1) * task.period)
end_after task u p l =
    let o : ℕ = task.offset in
    let n : ℕ = task.period in
    let d = div-add-mod' (u - o) n in
    let m = mod-lt (u - o) p in
    record {
      above = omega (arith, d, m, l);
      here = offset_at task ((u - o) / n + 1);
      first = λ v low high.
          (let e : (v - o) / n ≡ (u - o) / n = div-eq_of_lt-le n (omega (arith, d, low, l)) (omega (arith, high, low, l)) in
          let d' = div-add-mod' (v - o) n in
          let same = ap (λ x. x * n) e in
          no_boundary task v (omega arith) (and_right (leb o v) (eqb ((v - o) % n) 0) (ne_eqb ((v - o) % n) 0 (λ z. omega (arith, d, d', same, z, low, l)))));
    }

pub task_end_is : (task : declared.Task) (u e : ℕ) → IsLawfulTask task → IsEnd (task_boundary task) u e → e ≡ window_end (task_boundary task) u
task_end_is task u e h x =
    let work = h.some_work in
    let fits = h.work_fits in
    let period = h.period_fits in
    let offset = h.offset_fits in
    same_IsEnd (task_boundary task) u e (window_end (task_boundary task) u) x (end_is (task_boundary task) (offset_multiples task
    (omega (arith, work, fits)) (omega (arith, period)) (omega (arith, offset))) u)

-- an idle leaf's boundaries are far apart
pub idle_end : (tasks : List declared.Task) (number u : ℕ) → u < 2 ^ 32 → 2 ^ 33 ≡ window_end (set_boundary tasks (Idle number)) u
idle_end tasks number u l =
    let b : ℕ → Bool = set_boundary tasks (Idle number) in
    same_IsEnd b u (2 ^ 33) (window_end b u)
    (record { above = omega (arith, l); here = mod_itself 1 (2 ^ 33); first = λ v low high. idle_late tasks number v (omega (arith, low)) high })
    (end_is b (multiples (2 ^ 33) (omega arith) (omega arith)) u)
