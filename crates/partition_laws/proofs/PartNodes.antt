-- The nodes of a part and their likes in its own plan: they stand at like places and have the same boundaries.
use Rattle.std.proofs.Common.{Bool, List, None, Option, Some, [], ap, arith, false, get_or, inl, inr, length, map, option_map, refl, subst, suc, sym}
use Rattle.std.proofs.Common.{true, zero, ℕ, ◌<◌, ◌/◌, ◌∙◌, ◌∷◌, ◌≡◌}
use Rattle.std.proofs.Math.Nat.{div-div-eq-div-mul}
use Rattle.std.proofs.lemmas.Bool.{both_ways}
use Rattle.std.proofs.lemmas.List.{ext_get_or, get_or-map, length-map}
use mathlib.Core.Path.{fun_ext}
use Rattle.sched_base.specs.declared.rows.Leaf.{Leaf}
use Rattle.run_tree.specs.Boundaries.{HaveBoundaries, any_of, is_boundary, member_boundary, pack_boundary, set_boundary}
use Rattle.run_tree.specs.Plans.{IsPlan, PlanContents}
use Rattle.run_tree.specs.Tree.{IsDual, IsLeaf, IsMember, IsPack, IsTree, Tree, dual, home, is_pack, kind_at, leaf, level, member, members, place, primal}
use Rattle.run_tree.proofs.BoundaryLemmas.{bound_dual, bound_leaf, bound_pack}
use Rattle.run_tree.proofs.KindLemmas.{KindOf, kind_of, not_pack_leaf}
use Rattle.run_tree.proofs.PackBoundaryLemmas.{member_value}
use Rattle.run_tree.proofs.SetBoundaryLemmas.{set_leaves}
use Rattle.sched_laws.proofs.LevelRates.{dual_bounds}
use Rattle.partition_laws.specs.Parts.{IsPartPlan}
use Rattle.partition_laws.proofs.AlikeLeaves.{alike_boundary, alike_leaf}

-- a plan's leaves have boundaries
pub plan_leaves : (p : PlanContents) → IsPlan p → HaveBoundaries (set_boundary p.set.tasks) p.tree
plan_leaves p is = set_leaves p.set.tasks is.lawful.each p.tree is.tree.tasks

-- some item of a list passes where one of another does, where all pass alike
pub any_same : (p q : ℕ → Bool) (xs ys : List ℕ) → length xs ≡ length ys → ((k : ℕ) → k < length ys → p (get_or xs k 0) ≡ q (get_or ys k 0)) →
    any_of p xs ≡ any_of q ys
any_same p q [] [] long same = refl
any_same p q [] (y ∷ ys) long same = absurd (omega (arith, long))
any_same p q (x ∷ xs) [] long same = absurd (omega (arith, long))
any_same p q (x ∷ xs) (y ∷ ys) long same =
    ap (λ (b : Bool). elim b as (λ c. Bool) [ true ↦ true | false ↦ any_of p xs ]) (same 0 (omega arith))
    ∙ ap (λ (r : Bool). elim (q y) as (λ c. Bool) [ true ↦ true | false ↦ r ]) (any_same p q xs ys (omega (arith, long))
    (λ k l. same (suc k) (omega (arith, l))))

-- a pack's boundaries are those of its members
pub pack_any : (of_leaf : Leaf → ℕ → Bool) (t : Tree) (h : IsTree t) (leaves : HaveBoundaries of_leaf t) (p u : ℕ) → IsPack t p →
    is_boundary of_leaf t p u ≡ any_of (λ x. is_boundary of_leaf t x u) (members t p)
pack_any of_leaf t h leaves p u i = bound_pack of_leaf t h p i u ∙ go (level t p) refl
  where
    go : (n : ℕ) → level t p ≡ n → pack_boundary of_leaf t n p u ≡ any_of (λ x. is_boundary of_leaf t x u) (members t p)
    go zero at = any_same (λ x. member_boundary of_leaf (λ q v. false) (kind_at t x) u) (λ x. is_boundary of_leaf t x u) (members t p) (members t p) refl
        (λ k l. member_value of_leaf t h leaves p k u i l (λ q v. false) (λ q j up. absurd (omega (arith, up, at))))
    go (suc n) at = any_same (λ x. member_boundary of_leaf (λ q v. pack_boundary of_leaf t n q v) (kind_at t x) u) (λ x. is_boundary of_leaf t x u)
        (members t p) (members t p) refl
        (λ k l. member_value of_leaf t h leaves p k u i l (λ q v. pack_boundary of_leaf t n q v) (λ q j up. ap (λ m. pack_boundary of_leaf t m q u)
        (omega (arith, up, at))))

module _ (whole own : PlanContents) (onto : ℕ → ℕ) (f : ℕ) (w : IsPlan whole) (o : IsPlan own) (is : IsPartPlan whole own onto f) where
  -- the factor is some number
  pub some_ticks : 0 < f
  some_ticks = let s = is.some in omega (arith, s)

  -- a tick's unit
  pub unit_there : (n : ℕ) → n / whole.tree.scale ≡ n / f / own.tree.scale
  unit_there n = ap (λ s. n / s) is.scale ∙ sym (div-div-eq-div-mul n f own.tree.scale)

  -- the members of a pack are those that its like's are likes of
  pub members_there : (p : ℕ) → IsPack own.tree p → members whole.tree (onto p) ≡ map onto (members own.tree p)
  members_there p i =
      let long = is.same p i in
      let long' = length-map (members own.tree p) onto in
      ext_get_or 0 (members whole.tree (onto p)) (map onto (members own.tree p)) (omega (arith, long, long'))
      (λ k l. (let b : k < length (members own.tree p) = omega (arith, l, long) in is.members_are p k i b ∙ sym (get_or-map onto (members own.tree p) k 0 0 b)))

  -- a member's like is a member of its home's like, at the same place
  pub member_there : (x : ℕ) → IsMember own.tree x → IsMember whole.tree (onto x) × (home whole.tree (onto x) ≡ onto (home own.tree x))
      × (place whole.tree (onto x) ≡ place own.tree x)
  member_there x m =
      let (i, l, same) = o.tree.tree.homes_are x m in
      let long = is.same (home own.tree x) i in
      let at = is.members_are (home own.tree x) (place own.tree x) i l ∙ ap onto same in
      let P : ℕ → Type 0 = λ y. IsMember whole.tree y × (home whole.tree y ≡ onto (home own.tree x)) × (place whole.tree y ≡ place own.tree x) in
      subst P at (w.tree.tree.members_are (onto (home own.tree x)) (place own.tree x) (is.packs (home own.tree x) i) (omega (arith, l, long)))

  -- a leaf's is a leaf
  pub leaf_there : (x : ℕ) → IsLeaf own.tree x → IsLeaf whole.tree (onto x)
  leaf_there x i = (
    (member_there x (i.0, not_pack_leaf (kind_at own.tree x) i.1)).0.0,
    alike_leaf whole.set.tasks own.set.tasks (kind_at whole.tree (onto x)) (leaf own.tree x) (is.alike x i),
  )

  -- a dual's is the dual of its primal's
  pub dual_there : (p d : ℕ) → IsPack own.tree p → dual own.tree p ≡ Some d → dual whole.tree (onto p) ≡ Some (onto d)
  dual_there p d i e = is.duals_are p i ∙ ap (λ (c : Option ℕ). option_map onto c) e

  -- and a root's is a root
  pub root_there : (p : ℕ) → IsPack own.tree p → dual own.tree p ≡ None → dual whole.tree (onto p) ≡ None
  root_there p i e = is.duals_are p i ∙ ap (λ (c : Option ℕ). option_map onto c) e

  -- whether a unit is a boundary of a node, and of its like
  abbrev pub its_bound : ℕ → ℕ → Bool
  its_bound x = is_boundary (set_boundary whole.set.tasks) whole.tree (onto x)

  -- in the own plan
  abbrev pub own_bound : ℕ → ℕ → Bool
  own_bound x = is_boundary (set_boundary own.set.tasks) own.tree x

  -- leaves have the same boundaries
  pub same_leaf : (x u : ℕ) → IsLeaf own.tree x → its_bound x u ≡ own_bound x u
  same_leaf x u i =
      bound_leaf (set_boundary whole.set.tasks) whole.tree w.tree.tree (onto x) (leaf_there x i) u
      ∙ alike_boundary whole.set.tasks own.set.tasks (leaf whole.tree (onto x)) (leaf own.tree x) (is.alike x i) u
      ∙ sym (bound_leaf (set_boundary own.set.tasks) own.tree o.tree.tree x i u)

  -- duals have, where their primals have
  pub same_dual : (x u : ℕ) → IsDual own.tree x → its_bound (primal own.tree x) u ≡ own_bound (primal own.tree x) u → its_bound x u ≡ own_bound x u
  same_dual x u i same =
      let (p, e, up) = o.tree.tree.duals_are x i in
      dual_bounds (set_boundary whole.set.tasks) whole.tree w.tree.tree (onto (primal own.tree x)) (onto x) (is.packs (primal own.tree x) p)
      (dual_there (primal own.tree x) x p e) u
      ∙ same
      ∙ sym (bound_dual (set_boundary own.set.tasks) own.tree o.tree.tree x i u)

  -- so members have, where packs of the level below do
  pub same_under : (p k u : ℕ) → IsPack own.tree p → k < length (members own.tree p) →
      ((q : ℕ) → IsPack own.tree q → suc (level own.tree q) ≡ level own.tree p → its_bound q u ≡ own_bound q u) →
      its_bound (member own.tree p k) u ≡ own_bound (member own.tree p k) u
  same_under p k u i l under = go (kind_of (kind_at own.tree (member own.tree p k)))
    where
      m : IsMember own.tree (member own.tree p k) × (home own.tree (member own.tree p k) ≡ p) × (place own.tree (member own.tree p k) ≡ k)
      m = o.tree.tree.members_are p k i l

      go : KindOf (kind_at own.tree (member own.tree p k)) → its_bound (member own.tree p k) u ≡ own_bound (member own.tree p k) u
      go (inl a_leaf) = same_leaf (member own.tree p k) u (m.0.0, a_leaf)
      go (inr (inl a_dual)) =
          (let d = o.tree.tree.duals_are (member own.tree p k) (m.0.0, a_dual) in
          let up = d.2 in
          let at = ap (level own.tree) m.1 in
          same_dual (member own.tree p k) u (m.0.0, a_dual) (under (primal own.tree (member own.tree p k)) d.0 (omega (arith, up, at))))
      go (inr (inr a_pack)) = absurd (both_ways (is_pack (kind_at own.tree (member own.tree p k))) m.0.1 a_pack)

  -- and so does their pack
  pub same_over : (p u : ℕ) → IsPack own.tree p →
      ((q : ℕ) → IsPack own.tree q → suc (level own.tree q) ≡ level own.tree p → its_bound q u ≡ own_bound q u) → its_bound p u ≡ own_bound p u
  same_over p u i under =
      pack_any (set_boundary whole.set.tasks) whole.tree w.tree.tree (plan_leaves whole w) (onto p) u (is.packs p i)
      ∙ any_same (λ x. is_boundary (set_boundary whole.set.tasks) whole.tree x u) (λ x. own_bound x u) (members whole.tree (onto p)) (members own.tree p)
      (is.same p i)
      (λ k l. ap (λ x. is_boundary (set_boundary whole.set.tasks) whole.tree x u) (is.members_are p k i l) ∙ same_under p k u i l under)
      ∙ sym (pack_any (set_boundary own.set.tasks) own.tree o.tree.tree (plan_leaves own o) p u i)

  -- level by level
  pub same_pack : (l p u : ℕ) → IsPack own.tree p → level own.tree p ≡ l → its_bound p u ≡ own_bound p u
  same_pack zero p u i at = same_over p u i (λ q j up. absurd (omega (arith, up, at)))
  same_pack (suc l) p u i at = same_over p u i (λ q j up. same_pack l q u j (omega (arith, up, at)))

  -- a member and its like have the same boundaries
  pub same_member : (x : ℕ) → IsMember own.tree x → its_bound x ≡ own_bound x
  same_member x m = fun_ext (λ u. go u (kind_of (kind_at own.tree x)))
    where
      go : (u : ℕ) → KindOf (kind_at own.tree x) → its_bound x u ≡ own_bound x u
      go u (inl a_leaf) = same_leaf x u (m.0, a_leaf)
      go u (inr (inl a_dual)) = same_dual x u (m.0, a_dual) (same_pack (level own.tree (primal own.tree x)) (primal own.tree x) u (o.tree.tree.duals_are x
          (m.0, a_dual)).0 refl)
      go u (inr (inr a_pack)) = absurd (both_ways (is_pack (kind_at own.tree x)) m.1 a_pack)
