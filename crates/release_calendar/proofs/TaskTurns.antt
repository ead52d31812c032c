-- Where the window of a task ends that begins at one of its boundaries.
use Rattle.std.proofs.Common.{◌≡◌, ℕ, length, sym, ◌+◌, ◌-◌, ◌*◌, ◌/◌, ◌%◌, ◌<◌, ◌≤◌, ◌&&◌, eqb, leb, true, ap, arith, ◌∙◌, div-add-mod', inl, inr}
use native.Mathlib.Nat.{zero-mod}
use Rattle.std.proofs.lemmas.Bool.{eqb-true, or_cases, and_parts}
use Rattle.sched_base.specs.declared.sets.Task as declared
use Rattle.sched_base.specs.declared.rows.Leaf.{Leaf}
use Rattle.sched_base.specs.Boundaries.{task_boundary}
use Rattle.run_tree.specs.declared.kinds.Kind.TheVariants as kind
use Rattle.run_tree.specs.Boundaries.{set_boundary}
use Rattle.run_tree.specs.Tree.{kind_at, is_leaf, leaf_of}
use Rattle.run_tree.specs.Plans.{PlanContents, IsPlan, boundary_of}
use Rattle.release_calendar.proofs.NextLemmas.{bound_at_leaf}

-- from the offset on, whole periods have gone
pub whole_periods : (task : declared.Task) (u : ℕ) → task.offset ≤ u → task_boundary task u ≡ true → (u - task.offset) % task.period ≡ 0
whole_periods task u l e = elim (or_cases (eqb u 0) (leb task.offset u && eqb ((u - task.offset) % task.period) 0) e) [
  | inl first ↦ (let z = eqb-true u 0 first in let none : u - task.offset ≡ 0 = omega (arith, z) in ap (λ x. x % task.period) none ∙ zero-mod task.period)
  | inr later ↦ eqb-true ((u - task.offset) % task.period) 0 (and_parts (leb task.offset u) (eqb ((u - task.offset) % task.period) 0) later).1
]

-- so the next boundary is a period later
pub period_later : (task : declared.Task) (u : ℕ) → task.offset ≤ u → task_boundary task u ≡ true → u + task.period ≡ task.offset + ((u - task.offset) /
    task.period + 1) * task.period
period_later task u l e =
    let d = div-add-mod' (u - task.offset) task.period in
    let z = whole_periods task u l e in
    omega (arith, d, z, l)

-- what is a boundary of a node is one of its leaf
pub leaf_begins : (p : PlanContents) → IsPlan p → (n : ℕ) (l : Leaf) (u : ℕ) → n < length p.tree.nodes → kind_at p.tree n ≡ kind.Leaf l →
    boundary_of p n u ≡ true → set_boundary p.set.tasks l u ≡ true
leaf_begins p h n l u b e on = ap (λ k. set_boundary p.set.tasks (leaf_of k) u) (sym e) ∙ sym (bound_at_leaf p h n (b, ap is_leaf e) u) ∙ on
