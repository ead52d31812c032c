-- The next boundary of a node, by those of the nodes below it.
use Rattle.std.proofs.Common.{◌≡◌, ℕ, zero, suc, ◌+◌, ◌*◌, ◌^◌, ◌<◌, ◌≤◌, ◌⊎◌, Bool, true, false, length, min, refl, ap, ap₂, arith, inl, inr, sym, subst, ◌∙◌}
use Rattle.std.proofs.lemmas.Bool.{cases_lt, both_ways}
use Rattle.sched_base.specs.declared.rows.Leaf.{Leaf}
use Rattle.sched_base.specs.declared.rows.Leaf.TheVariants.{Task, Wait, Idle, Empty}
use Rattle.sched_base.specs.declared.rows.NodeId.{NodeId}
use Rattle.run_tree.specs.declared.kinds.Kind.{Kind}
use Rattle.run_tree.specs.declared.kinds.Kind.TheVariants as kind
use Rattle.run_tree.specs.Windows.{boundary_within, window_end}
use Rattle.run_tree.specs.Tree.{Tree, IsTree, IsPack, IsLeaf, is_leaf, is_dual, is_pack, kind_at, level_of, level, leaf, leaf_of, primal_of, home}
use Rattle.run_tree.specs.Tree.{member, members}
use Rattle.run_tree.specs.Boundaries.{set_boundary}
use Rattle.run_tree.specs.TreeOfSet.{IsKnown, is_real}
use Rattle.run_tree.specs.Plans.{PlanContents, IsPlan, boundary_of}
use Rattle.run_tree.proofs.BoundaryLemmas.{bound_leaf, bound_dual}
use Rattle.run_tree.proofs.PackBoundaryLemmas.{pack_end}
use Rattle.run_tree.proofs.SetBoundaryLemmas.{set_leaves}

-- ---- the order in which next boundaries are asked for

abbrev pub rank_by : Tree → Kind → ℕ
rank_by t (kind.Leaf leaf) = 0
rank_by t (kind.Pack l) = 2 * l + 1
rank_by t (kind.Dual p) = 2 * level t p.0 + 2

-- a node's number in that order: more than that of the nodes below
unfoldable pub rank : Tree → ℕ → ℕ
rank t n = rank_by t (kind_at t n)

rank_at : (t : Tree) (n : ℕ) (k : Kind) → kind_at t n ≡ k → rank t n ≡ rank_by t k
unfolding rank
rank_at t n k e = ap (rank_by t) e

pack_rank : (t : Tree) (p : ℕ) (k : Kind) → kind_at t p ≡ k → is_pack k ≡ true → rank t p ≡ 2 * level t p + 1
pack_rank t p (kind.Leaf leaf) e f = cc
pack_rank t p (kind.Pack l) e f = (let at = ap level_of e in rank_at t p (kind.Pack l) e ∙ omega (arith, at))
pack_rank t p (kind.Dual q) e f = cc

-- a dual comes after its primal
pub rank_primal : (t : Tree) → IsTree t → (n : ℕ) (p : NodeId) → n < length t.nodes → kind_at t n ≡ kind.Dual p → (p.0 < length t.nodes)
    × (rank t p.0 < rank t n)
rank_primal t h n p l e =
    let i = (h.duals_are n (l, ap is_dual e)).0 in
    let P : ℕ → Type 0 = λ q. IsPack t q in
    let is_p : IsPack t p.0 = subst P (ap primal_of e) i in
    (is_p.0, let a = rank_at t n (kind.Dual p) e in let b = pack_rank t p.0 (kind_at t p.0) refl is_p.1 in omega (arith, a, b))

member_rank : (t : Tree) → IsTree t → (p m : ℕ) (k : Kind) → IsPack t p → m < length t.nodes → home t m ≡ p → kind_at t m ≡ k → is_pack k ≡ false →
    rank t m < rank t p
member_rank t h p m (kind.Leaf leaf) i l at e f = (let a = rank_at t m (kind.Leaf leaf) e in let b = pack_rank t p (kind_at t p) refl i.1 in
    omega (arith, a, b))
member_rank t h p m (kind.Pack level) i l at e f = cc
member_rank t h p m (kind.Dual q) i l at e f =
    let up = (h.duals_are m (l, ap is_dual e)).2 in
    let home_level = ap (level t) at in
    let primal_level = ap (λ k. level t (primal_of k)) e in
    let a = rank_at t m (kind.Dual q) e in
    let b = pack_rank t p (kind_at t p) refl i.1 in
    omega (arith, a, b, up, home_level, primal_level)

-- a pack comes after its members
pub rank_member : (t : Tree) → IsTree t → (p k : ℕ) → IsPack t p → k < length (members t p) → (member t p k < length t.nodes)
    × (rank t (member t p k) < rank t p)
rank_member t h p k i l =
    let m = h.members_are p k i l in
    (m.0.0, member_rank t h p (member t p k) (kind_at t (member t p k)) i m.0.0 m.1 refl m.0.1)

-- ---- the ends of windows

same_within : (n : ℕ) (b c : ℕ → Bool) → ((u : ℕ) → b u ≡ c u) → (u : ℕ) → boundary_within n b u ≡ boundary_within n c u
same_within zero b c same u = refl
same_within (suc n) b c same u = ap₂ (λ (x : Bool) (r : ℕ). elim x as (λ y. ℕ) [ true ↦ suc u | false ↦ r ]) (same (suc u)) (same_within n b c same (suc u))

pub window_end-same : (b c : ℕ → Bool) → ((u : ℕ) → b u ≡ c u) → (u : ℕ) → window_end b u ≡ window_end c u
unfolding window_end
window_end-same b c same u = same_within (2 ^ 33) b c same u

-- the end of the window of member k of pack n
abbrev pub member_end : PlanContents → ℕ → ℕ → ℕ → ℕ
member_end p n u k = window_end (boundary_of p (member p.tree n k)) u

-- the least of the ends of the first members' windows
pub record IsLeastOf (p : PlanContents) (n u count least : ℕ) : Type 0 where
  pub each : (j : ℕ) → j < count → least ≤ member_end p n u j
  pub some : ((count ≡ 0) × (2 ^ 64 ≤ least + 1)) ⊎ ((j : ℕ) × (j < count) × (least ≡ member_end p n u j))

module _ (p : PlanContents) (h : IsPlan p) where
  tree_of_plan : IsTree p.tree
  tree_of_plan = h.tree.tree

  -- a leaf's own boundaries
  pub leaf_end_is : (n : ℕ) (l : Leaf) (u : ℕ) → n < length p.tree.nodes → kind_at p.tree n ≡ kind.Leaf l → window_end (set_boundary p.set.tasks l)
      u ≡ window_end (boundary_of p n) u
  leaf_end_is n l u b e =
      window_end-same (set_boundary p.set.tasks l) (boundary_of p n) (λ v. ap (λ k. set_boundary p.set.tasks (leaf_of k) v) (sym e)
      ∙ sym (bound_leaf (set_boundary p.set.tasks) p.tree tree_of_plan n (b, ap is_leaf e) v)) u

  pub leaf_known : (n : ℕ) (l : Leaf) → n < length p.tree.nodes → kind_at p.tree n ≡ kind.Leaf l → IsKnown p.set.tasks l
  leaf_known n l b e = go l (ap leaf_of e)
    where
      is : IsLeaf p.tree n
      is = (b, ap is_leaf e)

      go : (m : Leaf) → leaf p.tree n ≡ m → IsKnown p.set.tasks m
      go (Task id) f = h.tree.tasks.known n id is f
      go (Wait id) f = absurd (both_ways (is_real (leaf p.tree n)) (ap is_real f) (h.tree.tasks.real n is))
      go (Idle number) f = tt
      go Empty f = absurd (both_ways (is_real (leaf p.tree n)) (ap is_real f) (h.tree.tasks.real n is))

  -- a dual's are its primal's
  pub dual_end_is : (n : ℕ) (q : NodeId) (u : ℕ) → n < length p.tree.nodes → kind_at p.tree n ≡ kind.Dual q → window_end (boundary_of p q.0) u ≡ window_end
      (boundary_of p n) u
  dual_end_is n q u b e =
      window_end-same (boundary_of p q.0) (boundary_of p n)
      (λ v. ap (λ k. boundary_of p (primal_of k) v) (sym e) ∙ sym (bound_dual (set_boundary p.set.tasks) p.tree tree_of_plan n (b, ap is_dual e) v)) u

  pub pack_end_is : (n l u least : ℕ) → n < length p.tree.nodes → kind_at p.tree n ≡ kind.Pack l → IsLeastOf p n u (length (members p.tree n)) least →
      least ≡ window_end (boundary_of p n) u
  pack_end_is n l u least b e is = go is.some
    where
      i : IsPack p.tree n
      i = (b, ap is_pack e)

      go : ((length (members p.tree n) ≡ 0) × (2 ^ 64 ≤ least + 1)) ⊎ ((j : ℕ) × (j < length (members p.tree n)) × (least ≡ member_end p n u j)) →
          least ≡ window_end (boundary_of p n) u
      go (inl none) = (let some = tree_of_plan.filled n i in absurd (omega (arith, some, none.0)))
      go (inr (k, m, at)) =
          at ∙ sym (pack_end (set_boundary p.set.tasks) p.tree tree_of_plan (set_leaves p.set.tasks h.lawful.each p.tree h.tree.tasks) n k u i m
          (λ j jm. let x = is.each j jm in omega (arith, x, at)))

  pub least_more : (n u count least found : ℕ) → found < 2 ^ 64 → found ≡ member_end p n u count → IsLeastOf p n u count least → IsLeastOf p n u (count + 1)
      (min least found)
  least_more n u count least found fits e was = elim (cases_lt least found) [
    | inl low ↦ (let m : min least found ≡ least = omega (arith, low) in record {
      each = λ j b. elim (cases_lt j count)
          [ inl old ↦ (let x = was.each j old in omega (arith, x, m)) | inr new ↦ (let x = last j b new in omega (arith, x, e, m, low)) ];
      some = kept m low was.some;
    })
    | inr high ↦ (let m : min least found ≡ found = omega (arith, high) in record {
      each = λ j b. elim (cases_lt j count)
          [ inl old ↦ (let x = was.each j old in omega (arith, x, m, high)) | inr new ↦ (let x = last j b new in omega (arith, x, e, m)) ];
      some = inr (count, omega arith, m ∙ e);
    })
  ]
    where
      last : (j : ℕ) → j < count + 1 → count ≤ j → member_end p n u j ≡ member_end p n u count
      last j b new = ap (member_end p n u) (omega (arith, b, new))

      kept : min least found ≡ least → least < found → ((count ≡ 0) × (2 ^ 64 ≤ least + 1)) ⊎ ((j : ℕ) × (j < count) × (least ≡ member_end p n u j)) →
          ((count + 1 ≡ 0) × (2 ^ 64 ≤ min least found + 1)) ⊎ ((j : ℕ) × (j < count + 1) × (min least found ≡ member_end p n u j))
      kept m low (inl none) = absurd (omega (arith, none.1, fits, low))
      kept m low (inr (j, b, at)) = inr (j, omega (arith, b), m ∙ at)
