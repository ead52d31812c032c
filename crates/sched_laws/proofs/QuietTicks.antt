-- What a tick without an event says.
use Rattle.std.proofs.Common.{Bool, ap, arith, div-add-mod', eq-eqb, eqb, false, inl, inr, length, not, refl, suc, true, zero-add, ℕ, ◌%◌, ◌&&◌, ◌*◌}
use Rattle.std.proofs.Common.{◌/◌, ◌<◌, ◌^◌, ◌∙◌, ◌≡◌}
use Rattle.std.proofs.lemmas.Bool.{and_cases, and_from, both_ways, cases_eq, false_from_ne_true, or_parts}
use Rattle.std.proofs.lemmas.List.Folds.{list_any_at}
use Rattle.std.proofs.lemmas.List.FromFn.{get_or-range_with_len, length-range_with_len}
use Rattle.std.specs.List.{list_any, range_with_len}
use Rattle.sched_base.specs.declared.rows.Leaf.{Leaf}
use Rattle.sched_base.specs.declared.rows.Leaf.TheVariants.{Empty, Idle, Task, Wait}
use Rattle.sched_base.proofs.UnitLemmas.{unit_below}
use Rattle.run_tree.specs.Tree.{IsLeaf, IsMember, IsTree, Tree, is_leaf, is_pack, kind_at, leaf}
use Rattle.run_tree.specs.Runs.{runs}
use Rattle.run_tree.specs.Rounds.{is_event, is_task, runs_dry, task_begins}
use Rattle.run_tree.specs.TreeOfSet.{is_real}
use Rattle.run_tree.proofs.RunLemmas.{left_at}

-- what a tick without an event says
module _ (of_leaf : Leaf → ℕ → Bool) (t : Tree) (h : IsTree t)
    (idle_late : (i u : ℕ) → 0 < u → u < 2 ^ 33 → of_leaf (Idle i) u ≡ false)
    (real : (x : ℕ) → IsLeaf t x → is_real (leaf t x) ≡ true)
    (n : ℕ) (early : suc n < 2 ^ 33 * t.scale) (calm : is_event of_leaf t (suc n) ≡ false) where
  -- no task has a boundary there, and no member ran dry
  pub calm_parts : ((eqb (suc n % t.scale) 0 && list_any (λ x. task_begins of_leaf t (suc n) x) (range_with_len 0 (length t.nodes))) ≡ false)
      × (list_any (λ x. runs_dry of_leaf t n x) (range_with_len 0 (length t.nodes)) ≡ false)
  unfolding is_event
  calm_parts = or_parts _ _ calm

  -- where no node of a tree passes, this one does not
  pub none_of : (p : ℕ → Bool) → list_any p (range_with_len 0 (length t.nodes)) ≡ false → (x : ℕ) → x < length t.nodes → p x ≡ false
  none_of p none x l = false_from_ne_true (p x) (λ e.
      both_ways (list_any p (range_with_len 0 (length t.nodes))) none
      (list_any_at p (range_with_len 0 (length t.nodes)) x 0 (let c = length-range_with_len 0 (length t.nodes) in omega (arith, c))
      (ap p (get_or-range_with_len 0 (length t.nodes) x 0 l ∙ zero-add x) ∙ e)))

  -- who ran has due left
  pub calm_unspent : (x : ℕ) → IsMember t x → runs of_leaf t x n ≡ true → 0 < left_at of_leaf t (suc n) x
  calm_unspent x i run =
      elim (cases_eq (left_at of_leaf t (suc n) x) 0) [
        | inl z ↦ absurd (both_ways (runs_dry of_leaf t n x) (none_of (λ y. runs_dry of_leaf t n y) calm_parts.1 x i.0)
            (and_from (not (is_pack (kind_at t x)) && runs of_leaf t x n) (eqb (left_at of_leaf t (suc n) x) 0) (and_from (not (is_pack (kind_at t x)))
            (runs of_leaf t x n) (ap not i.1) run) (eq-eqb (left_at of_leaf t (suc n) x) 0 z)))
        | inr ne ↦ omega arith
      ]

  -- no leaf has a boundary
  pub calm_quiet : (x : ℕ) → IsLeaf t x → suc n % t.scale ≡ 0 → of_leaf (leaf t x) (suc n / t.scale) ≡ false
  calm_quiet x i z = go (leaf t x) refl
    where
      none : list_any (λ y. task_begins of_leaf t (suc n) y) (range_with_len 0 (length t.nodes)) ≡ false
      none = elim (and_cases _ _ calm_parts.0) [
        | inl off ↦ absurd (both_ways (eqb (suc n % t.scale) 0) off (eq-eqb (suc n % t.scale) 0 z))
        | inr off ↦ off
      ]

      go : (l : Leaf) → leaf t x ≡ l → of_leaf l (suc n / t.scale) ≡ false
      go (Task id) e = false_from_ne_true (of_leaf (Task id) (suc n / t.scale)) (λ b.
          both_ways (task_begins of_leaf t (suc n) x) (none_of (λ y. task_begins of_leaf t (suc n) y) none x i.0)
          (and_from (is_leaf (kind_at t x) && is_task (leaf t x)) (of_leaf (leaf t x) (suc n / t.scale))
          (and_from (is_leaf (kind_at t x)) (is_task (leaf t x)) i.1 (ap is_task e)) (ap (λ m. of_leaf m (suc n / t.scale)) e ∙ b)))
      go (Idle j) e =
          (let d = div-add-mod' (suc n) t.scale in
          idle_late j (suc n / t.scale) (elim (cases_eq (suc n / t.scale) 0) [
            | inl q ↦ absurd (let e = ap (λ w. w * t.scale) q in omega (arith, d, z, e))
            | inr q ↦ omega arith
          ])
          (unit_below (suc n) (2 ^ 33) t.scale h.scaled early))
      go (Wait id) e = absurd (both_ways (is_real (leaf t x)) (ap is_real e) (real x i))
      go Empty e = absurd (both_ways (is_real (leaf t x)) (ap is_real e) (real x i))
