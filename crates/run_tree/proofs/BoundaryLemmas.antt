-- The boundaries of nodes.
use Rattle.std.proofs.Common.{Bool, List, [], ap, arith, false, get_or, inl, inr, length, refl, suc, sym, true, zero, ℕ, ◌<◌, ◌∙◌, ◌∷◌, ◌≡◌}
use Rattle.std.proofs.lemmas.Bool.{both_ways}
use Rattle.run_tree.specs.declared.kinds.Kind.{Kind}
use Rattle.sched_base.specs.declared.rows.Leaf.{Leaf}
use Rattle.run_tree.specs.Windows.{HasBoundaries}
use Rattle.run_tree.specs.Tree.{IsDual, IsLeaf, IsMember, IsPack, IsTree, Tree, dual, is_dual, is_leaf, is_pack, kind_at, leaf, leaf_of, level}
use Rattle.run_tree.specs.Tree.{level_of, member, members, primal, primal_of}
use Rattle.run_tree.specs.Boundaries.{HaveBoundaries, any_of, is_boundary, member_boundary, node_boundary, pack_boundary}
use Rattle.run_tree.proofs.KindLemmas.{KindOf, kind_of}
use Rattle.run_tree.proofs.WindowLemmas.{has_more}
use Rattle.run_tree.specs.declared.kinds.Kind.TheVariants as kind

pub either_true : (b r : Bool) → r ≡ true → (elim b as (λ y. Bool) [ true ↦ true | false ↦ r ]) ≡ true
either_true true r e = refl
either_true false r e = e

-- an item passes where the k-th does
pub any_of_at : (p : ℕ → Bool) (xs : List ℕ) (k : ℕ) → k < length xs → p (get_or xs k 0) ≡ true → any_of p xs ≡ true
any_of_at p [] k l e = absurd (omega arith)
any_of_at p (x ∷ xs) zero l e = ap (λ (b : Bool). elim b as (λ y. Bool) [ true ↦ true | false ↦ any_of p xs ]) e
any_of_at p (x ∷ xs) (suc k) l e = either_true (p x) (any_of p xs) (any_of_at p xs k (omega arith) e)

-- and none where no item does
pub any_of_none : (p : ℕ → Bool) (xs : List ℕ) → ((k : ℕ) → k < length xs → p (get_or xs k 0) ≡ false) → any_of p xs ≡ false
any_of_none p [] f = refl
any_of_none p (x ∷ xs) f =
    ap (λ (b : Bool). elim b as (λ y. Bool) [ true ↦ true | false ↦ any_of p xs ]) (f 0 (omega arith))
    ∙ any_of_none p xs (λ k l. f (suc k) (omega arith))

pub leaf_node_boundary : (of_leaf : Leaf → ℕ → Bool) (t : Tree) (x : ℕ) (m : Kind) (u : ℕ) → is_leaf m ≡ true → node_boundary of_leaf t x m u ≡ of_leaf
    (leaf_of m) u
leaf_node_boundary of_leaf t x (kind.Leaf leaf) u e = refl
leaf_node_boundary of_leaf t x (kind.Pack level) u e = cc
leaf_node_boundary of_leaf t x (kind.Dual primal) u e = cc

pub pack_boundary_is : (of_leaf : Leaf → ℕ → Bool) (t : Tree) (x : ℕ) (m : Kind) (u : ℕ) → is_pack m ≡ true → node_boundary of_leaf t x m u ≡ pack_boundary
    of_leaf t (level_of m) x u
pack_boundary_is of_leaf t x (kind.Leaf leaf) u e = cc
pack_boundary_is of_leaf t x (kind.Pack level) u e = refl
pack_boundary_is of_leaf t x (kind.Dual primal) u e = cc

pub dual_boundary : (of_leaf : Leaf → ℕ → Bool) (t : Tree) (x : ℕ) (m : Kind) (u : ℕ) → is_dual m ≡ true → node_boundary of_leaf t x m u ≡ pack_boundary
    of_leaf t (level t (primal_of m)) (primal_of m) u
dual_boundary of_leaf t x (kind.Leaf leaf) u e = cc
dual_boundary of_leaf t x (kind.Pack level) u e = cc
dual_boundary of_leaf t x (kind.Dual primal) u e = refl

pub member_leaf : (of_leaf : Leaf → ℕ → Bool) (f : ℕ → ℕ → Bool) (m : Kind) (u : ℕ) → is_leaf m ≡ true → member_boundary of_leaf f m u ≡ of_leaf (leaf_of m) u
member_leaf of_leaf f (kind.Leaf leaf) u e = refl
member_leaf of_leaf f (kind.Pack level) u e = cc
member_leaf of_leaf f (kind.Dual primal) u e = cc

pub member_dual : (of_leaf : Leaf → ℕ → Bool) (f : ℕ → ℕ → Bool) (m : Kind) (u : ℕ) → is_dual m ≡ true → member_boundary of_leaf f m u ≡ f (primal_of m) u
member_dual of_leaf f (kind.Leaf leaf) u e = cc
member_dual of_leaf f (kind.Pack level) u e = cc
member_dual of_leaf f (kind.Dual primal) u e = refl

module _ (of_leaf : Leaf → ℕ → Bool) (t : Tree) (h : IsTree t) where
  -- the boundaries of a node
  abbrev pub bound : ℕ → ℕ → Bool
  bound = is_boundary of_leaf t

  -- a leaf has its own boundaries
  pub bound_leaf : (x : ℕ) → IsLeaf t x → (u : ℕ) → bound x u ≡ of_leaf (leaf t x) u
  unfolding is_boundary
  bound_leaf x i u = leaf_node_boundary of_leaf t x (kind_at t x) u i.1

  -- a pack those that its level says
  pub bound_pack : (p : ℕ) → IsPack t p → (u : ℕ) → bound p u ≡ pack_boundary of_leaf t (level t p) p u
  unfolding is_boundary
  bound_pack p i u = pack_boundary_is of_leaf t p (kind_at t p) u i.1

  -- a dual has its primal's boundaries
  pub bound_dual : (x : ℕ) → IsDual t x → (u : ℕ) → bound x u ≡ bound (primal t x) u
  unfolding is_boundary
  bound_dual x i u = dual_boundary of_leaf t x (kind_at t x) u i.1 ∙ sym (bound_pack (primal t x) (h.duals_are x i).0 u)

  -- a pack has its members' boundaries
  pub bound_member : (p k : ℕ) → IsPack t p → k < length (members t p) → (u : ℕ) → bound (member t p k) u ≡ true → bound p u ≡ true
  bound_member p k i l u e = bound_pack p i u ∙ go (level t p) refl
    where
      go : (n : ℕ) → level t p ≡ n → pack_boundary of_leaf t n p u ≡ true
      go zero at =
          any_of_at (λ x. member_boundary of_leaf (λ q v. false) (kind_at t x) u) (members t p) k l (at_kind (kind_of (kind_at t (member t p k))))
        where
          at_kind : KindOf (kind_at t (member t p k)) → member_boundary of_leaf (λ q v. false) (kind_at t (member t p k)) u ≡ true
          at_kind (inl a_leaf) = member_leaf of_leaf (λ q v. false) (kind_at t (member t p k)) u a_leaf
              ∙ sym (bound_leaf (member t p k) ((h.members_are p k i l).0.0, a_leaf) u) ∙ e
          at_kind (inr (inl a_dual)) =
              (let up = (h.duals_are (member t p k) ((h.members_are p k i l).0.0, a_dual)).2 in
              let same = ap (level t) (h.members_are p k i l).1 in
              absurd (omega (arith, up, same, at)))
          at_kind (inr (inr a_pack)) = absurd (both_ways (is_pack (kind_at t (member t p k))) (h.members_are p k i l).0.1 a_pack)
      go (suc n) at =
          any_of_at (λ x. member_boundary of_leaf (λ q v. pack_boundary of_leaf t n q v) (kind_at t x) u) (members t p) k l
          (at_kind (kind_of (kind_at t (member t p k))))
        where
          at_kind : KindOf (kind_at t (member t p k)) → member_boundary of_leaf (λ q v. pack_boundary of_leaf t n q v) (kind_at t (member t p k)) u ≡ true
          at_kind (inl a_leaf) =
              (let down = (h.leaves_are (member t p k) ((h.members_are p k i l).0.0, a_leaf)).0 in
              let same = ap (level t) (h.members_are p k i l).1 in
              absurd (omega (arith, down, same, at)))
          at_kind (inr (inl a_dual)) =
              (let d = h.duals_are (member t p k) ((h.members_are p k i l).0.0, a_dual) in
              let up = d.2 in
              let same = ap (level t) (h.members_are p k i l).1 in
              let deep : n ≡ level t (primal t (member t p k)) = omega (arith, up, same, at) in
              member_dual of_leaf (λ q v. pack_boundary of_leaf t n q v) (kind_at t (member t p k)) u a_dual
              ∙ ap (λ a. pack_boundary of_leaf t a (primal t (member t p k)) u) deep
              ∙ sym (bound_pack (primal t (member t p k)) d.0 u)
              ∙ sym (bound_dual (member t p k) ((h.members_are p k i l).0.0, a_dual) u)
              ∙ e)
          at_kind (inr (inr a_pack)) = absurd (both_ways (is_pack (kind_at t (member t p k))) (h.members_are p k i l).0.1 a_pack)

  -- each pack has boundaries, where each leaf has
  pub pack_has : HaveBoundaries of_leaf t → (n p : ℕ) → IsPack t p → level t p ≡ n → HasBoundaries (bound p)
  pack_has leaves zero p i at = has_more (bound (member t p 0)) (bound p) (at_kind (kind_of (kind_at t (member t p 0)))) (bound_member p 0 i (h.filled p i))
    where
      at_kind : KindOf (kind_at t (member t p 0)) → HasBoundaries (bound (member t p 0))
      at_kind (inl a_leaf) = has_more (of_leaf (leaf t (member t p 0))) (bound (member t p 0)) (leaves (member t p 0)
          ((h.members_are p 0 i (h.filled p i)).0.0, a_leaf))
          (λ v e. bound_leaf (member t p 0) ((h.members_are p 0 i (h.filled p i)).0.0, a_leaf) v ∙ e)
      at_kind (inr (inl a_dual)) =
          (let up = (h.duals_are (member t p 0) ((h.members_are p 0 i (h.filled p i)).0.0, a_dual)).2 in
          let same = ap (level t) (h.members_are p 0 i (h.filled p i)).1 in
          absurd (omega (arith, up, same, at)))
      at_kind (inr (inr a_pack)) = absurd (both_ways (is_pack (kind_at t (member t p 0))) (h.members_are p 0 i (h.filled p i)).0.1 a_pack)
  pack_has leaves (suc n) p i at = at_kind (kind_of (kind_at t (member t p 0))) (pack_has leaves n (primal t (member t p 0)))
    where
      at_kind : KindOf (kind_at t (member t p 0)) → (IsPack t (primal t (member t p 0)) → level t (primal t (member t p 0)) ≡ n →
          HasBoundaries (bound (primal t (member t p 0)))) → HasBoundaries (bound p)
      at_kind (inl leaf) ih =
          (let down = (h.leaves_are (member t p 0) ((h.members_are p 0 i (h.filled p i)).0.0, leaf)).0 in
          let same = ap (level t) (h.members_are p 0 i (h.filled p i)).1 in
          absurd (omega (arith, down, same, at)))
      at_kind (inr (inl dual)) ih =
          (let d = h.duals_are (member t p 0) ((h.members_are p 0 i (h.filled p i)).0.0, dual) in
          let up = d.2 in
          let same = ap (level t) (h.members_are p 0 i (h.filled p i)).1 in
          has_more (bound (primal t (member t p 0))) (bound p) (ih d.0 (omega (arith, up, same, at)))
          (λ v e. bound_member p 0 i (h.filled p i) v (bound_dual (member t p 0) ((h.members_are p 0 i (h.filled p i)).0.0, dual) v ∙ e)))
      at_kind (inr (inr pack)) ih = absurd (both_ways (is_pack (kind_at t (member t p 0))) (h.members_are p 0 i (h.filled p i)).0.1 pack)

  -- each leaf and each dual has boundaries
  pub member_has : HaveBoundaries of_leaf t → (x : ℕ) → IsMember t x → HasBoundaries (bound x)
  member_has leaves x i = at_kind (kind_of (kind_at t x))
    where
      at_kind : KindOf (kind_at t x) → HasBoundaries (bound x)
      at_kind (inl a_leaf) = has_more (of_leaf (leaf t x)) (bound x) (leaves x (i.0, a_leaf)) (λ v e. bound_leaf x (i.0, a_leaf) v ∙ e)
      at_kind (inr (inl a_dual)) =
          (let d = h.duals_are x (i.0, a_dual) in
          has_more (bound (primal t x)) (bound x) (pack_has leaves (level t (primal t x)) (primal t x) d.0 refl) (λ v e. bound_dual x (i.0, a_dual) v ∙ e))
      at_kind (inr (inr a_pack)) = absurd (both_ways (is_pack (kind_at t x)) i.1 a_pack)

-- no boundary of a leaf, no boundary
module _ (of_leaf : Leaf → ℕ → Bool) (t : Tree) (h : IsTree t) (u : ℕ) (none : (x : ℕ) → IsLeaf t x → of_leaf (leaf t x) u ≡ false) where
  -- then no pack has one
  pub no_pack_boundary : (l p : ℕ) → IsPack t p → level t p ≡ l → pack_boundary of_leaf t l p u ≡ false
  no_pack_boundary zero p i at = any_of_none (λ x. member_boundary of_leaf (λ q v. false) (kind_at t x) u) (members t p)
      (λ k b. at_kind k b (kind_of (kind_at t (member t p k))))
    where
      at_kind : (k : ℕ) (b : k < length (members t p)) → KindOf (kind_at t (member t p k)) → member_boundary of_leaf (λ q v. false)
          (kind_at t (member t p k)) u ≡ false
      at_kind k b (inl a_leaf) = member_leaf of_leaf (λ q v. false) (kind_at t (member t p k)) u a_leaf ∙ none (member t p k) (
        (h.members_are p k i b).0.0,
        a_leaf,
      )
      at_kind k b (inr (inl a_dual)) = member_dual of_leaf (λ q v. false) (kind_at t (member t p k)) u a_dual
      at_kind k b (inr (inr a_pack)) = absurd (both_ways (is_pack (kind_at t (member t p k))) (h.members_are p k i b).0.1 a_pack)
  no_pack_boundary (suc l) p i at = any_of_none (λ x. member_boundary of_leaf (λ q v. pack_boundary of_leaf t l q v) (kind_at t x) u) (members t p)
      (λ k b. at_kind (no_pack_boundary l) k b (kind_of (kind_at t (member t p k))))
    where
      at_kind : ((q : ℕ) → IsPack t q → level t q ≡ l → pack_boundary of_leaf t l q u ≡ false) → (k : ℕ) (b : k < length (members t p)) →
          KindOf (kind_at t (member t p k)) → member_boundary of_leaf (λ q v. pack_boundary of_leaf t l q v) (kind_at t (member t p k)) u ≡ false
      at_kind ih k b (inl a_leaf) = member_leaf of_leaf (λ q v. pack_boundary of_leaf t l q v) (kind_at t (member t p k)) u a_leaf ∙ none (member t p k)
          ((h.members_are p k i b).0.0, a_leaf)
      at_kind ih k b (inr (inl a_dual)) =
          (let d = h.duals_are (member t p k) ((h.members_are p k i b).0.0, a_dual) in
          let up = d.2 in
          let same = ap (level t) (h.members_are p k i b).1 in
          member_dual of_leaf (λ q v. pack_boundary of_leaf t l q v) (kind_at t (member t p k)) u a_dual
          ∙ ih (primal t (member t p k)) d.0 (omega (arith, up, same, at)))
      at_kind ih k b (inr (inr a_pack)) = absurd (both_ways (is_pack (kind_at t (member t p k))) (h.members_are p k i b).0.1 a_pack)

  -- nor a member
  pub no_boundary : (x : ℕ) → IsMember t x → is_boundary of_leaf t x u ≡ false
  no_boundary x i = at_kind (kind_of (kind_at t x))
    where
      at_kind : KindOf (kind_at t x) → is_boundary of_leaf t x u ≡ false
      at_kind (inl a_leaf) = bound_leaf of_leaf t h x (i.0, a_leaf) u ∙ none x (i.0, a_leaf)
      at_kind (inr (inl a_dual)) =
          (let d = (h.duals_are x (i.0, a_dual)).0 in
          bound_dual of_leaf t h x (i.0, a_dual) u ∙ bound_pack of_leaf t h (primal t x) d u ∙ no_pack_boundary (level t (primal t x)) (primal t x) d refl)
      at_kind (inr (inr a_pack)) = absurd (both_ways (is_pack (kind_at t x)) i.1 a_pack)
