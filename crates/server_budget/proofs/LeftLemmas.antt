-- What is left after spending.
use Rattle.std.proofs.Common.{◌≡◌, ℕ, zero, suc, ◌+◌, ◌-◌, ◌*◌, ◌/◌, ◌<◌, ◌≤◌, ◌&&◌, not, Bool, false, List, get_or, ap, ap₂, arith, inl, inr, sym}
use Rattle.std.proofs.Common.{◌∙◌, le_refl}
use Rattle.std.proofs.lemmas.Bool.{cases_lt, both_ways}
use Rattle.sched_base.specs.Counting.{bit}
use Rattle.sched_base.proofs.UnitLemmas.{tick_below}
use Rattle.run_tree.specs.Windows.{window_end}
use Rattle.run_tree.specs.Tree.{IsMember}
use Rattle.run_tree.specs.Boundaries.{HaveBoundaries, set_boundary}
use Rattle.run_tree.specs.Plans.{PlanContents, IsPlan, boundary_of}
use Rattle.run_tree.proofs.WindowLemmas.{end_is}
use Rattle.run_tree.proofs.BoundaryLemmas.{member_has}
use Rattle.run_tree.proofs.SetBoundaryLemmas.{set_leaves}
use Rattle.sched_laws.proofs.Spending.{left_spent}
use Rattle.server_budget.specs.Spending.{SaysLeft, SaysMembersRun, AreSpent, left_of}

module _ (p : PlanContents) (h : IsPlan p) where
  leaves : HaveBoundaries (set_boundary p.set.tasks) p.tree
  leaves = set_leaves p.set.tasks h.lawful.each p.tree h.tree.tasks

  -- with no boundary among these ticks the window ends after them
  ends_after : (n k x : ℕ) → IsMember p.tree x → ((u : ℕ) → n < u * p.tree.scale → u * p.tree.scale ≤ n + k → boundary_of p x u ≡ false) →
      n + k < window_end (boundary_of p x) (n / p.tree.scale) * p.tree.scale
  ends_after n k x i none =
      let e = end_is (boundary_of p x) (member_has (set_boundary p.set.tasks) p.tree h.tree.tree leaves x i) (n / p.tree.scale) in
      let up = tick_below n (window_end (boundary_of p x) (n / p.tree.scale)) p.tree.scale h.tree.tree.scaled e.above in
      elim (cases_lt (n + k) (window_end (boundary_of p x) (n / p.tree.scale) * p.tree.scale)) [
        | inl l ↦ l
        | inr l ↦ absurd (both_ways (boundary_of p x (window_end (boundary_of p x) (n / p.tree.scale)))
            (none (window_end (boundary_of p x) (n / p.tree.scale)) up l) e.here)
      ]

  pub left_after : (n ticks : ℕ) (running : List Bool) (before after : List ℕ) → SaysLeft p n before → ((s : ℕ) → n ≤ s → s < n + ticks →
      SaysMembersRun p s running) → AreSpent p running ticks before after →
      (x : ℕ) → IsMember p.tree x → ((u : ℕ) → n < u * p.tree.scale → u * p.tree.scale ≤ n + ticks → boundary_of p x u ≡ false) → get_or after x 0 ≡ left_of
      p (n + ticks) x
  left_after n zero running before after left says spent x i none =
      let s = spent x i in
      let l = left x i in
      let e : n + 0 ≡ n = omega arith in
      let now = ap (λ m. left_of p m x) e in
      omega (arith, s, l, now)
  left_after n (suc k) running before after left says spent x i none =
      let first = says n (le_refl n) (omega arith) x i in
      let same = left_spent (set_boundary p.set.tasks) p.tree h.tree.tree leaves x n (suc k) i (ends_after n (suc k) x i none)
      (λ s low high. sym (says s low high x i) ∙ first) in
      spent x i
      ∙ ap₂ (λ r (b : Bool). r - bit b * suc k) (left x i) (ap (λ (b : Bool). not b && get_or running x false) i.1 ∙ first)
      ∙ sym same
