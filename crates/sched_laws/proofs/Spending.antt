-- What is left of a due after some ticks.
use Rattle.std.proofs.Common.{Bool, ap₂, arith, div-mul-le_self, ℕ, ◌*◌, ◌+◌, ◌-◌, ◌/◌, ◌<◌, ◌≡◌, ◌≤◌}
use Rattle.sched_base.specs.declared.rows.Leaf.{Leaf}
use Rattle.sched_base.specs.Counting.{bit, ticks}
use Rattle.sched_base.proofs.CountingLemmas.{ticks-le, ticks_while}
use Rattle.sched_base.proofs.UnitLemmas.{unit_below, unit_from}
use Rattle.run_tree.specs.Windows.{window_begin, window_end}
use Rattle.run_tree.specs.Tree.{IsMember, IsTree, Tree, rate}
use Rattle.run_tree.specs.Boundaries.{HaveBoundaries, is_boundary}
use Rattle.run_tree.specs.Runs.{runs}
use Rattle.run_tree.proofs.WindowLemmas.{windows_of}
use Rattle.run_tree.proofs.BoundaryLemmas.{member_has}
use Rattle.run_tree.proofs.RunLemmas.{left_at, left_is, on_time}

module _ (of_leaf : Leaf → ℕ → Bool) (t : Tree) (h : IsTree t) (leaves : HaveBoundaries of_leaf t) where
  -- with no boundary above tick n up to tick n + k, what is left falls by the ticks in which the member ran
  pub left_later : (x n k : ℕ) → IsMember t x → n + k < window_end (is_boundary of_leaf t x) (n / t.scale) * t.scale →
      left_at of_leaf t (n + k) x ≡ left_at of_leaf t n x - (ticks (runs of_leaf t x) (n + k) - ticks (runs of_leaf t x) n)
  left_later x n k i before =
      let b = is_boundary of_leaf t x in
      let w = windows_of b (member_has of_leaf t h leaves x i) in
      let u = n / t.scale in
      let v = (n + k) / t.scale in
      let low : u ≤ v = unit_from (n + k) u t.scale h.scaled (let d = div-mul-le_self n t.scale in omega (arith, d)) in
      let begun = w.begun u in
      let high = unit_below (n + k) (window_end b u) t.scale h.scaled before in
      let first = w.same_begin u v (omega (arith, begun, low)) high in
      let last = w.same_end u v (omega (arith, begun, low)) high in
      let now = left_is of_leaf t x n (on_time of_leaf t h leaves x n i) in
      let later = left_is of_leaf t x (n + k) (on_time of_leaf t h leaves x (n + k) i) in
      let order = ticks-le (runs of_leaf t x) (window_begin b u * t.scale) n (on_time of_leaf t h leaves x n i) in
      let order' = ticks-le (runs of_leaf t x) n (n + k) (omega arith) in
      let same = ap₂ (λ s e. rate t x * (e - s) - (ticks (runs of_leaf t x) (n + k) - ticks (runs of_leaf t x) (s * t.scale))) first last in
      omega (arith, now, later, order, order', same)

  -- where the member runs at all of these ticks, or at none
  pub left_spent : (x n k : ℕ) → IsMember t x → n + k < window_end (is_boundary of_leaf t x) (n / t.scale) * t.scale →
      ((s : ℕ) → n ≤ s → s < n + k → runs of_leaf t x s ≡ runs of_leaf t x n) →
      left_at of_leaf t (n + k) x ≡ left_at of_leaf t n x - bit (runs of_leaf t x n) * k
  left_spent x n k i before same =
      let e = left_later x n k i before in
      let c = ticks_while (runs of_leaf t x) n k same in
      omega (arith, e, c)
