-- Nodes whose leaves have a boundary at one unit as at another.
use Rattle.std.proofs.Common.{Bool, List, [], ap, arith, false, get_or, inl, inr, length, refl, suc, sym, true, zero, ℕ, ◌<◌, ◌∙◌, ◌∷◌, ◌≡◌}
use Rattle.std.proofs.lemmas.Bool.{both_ways}
use Rattle.sched_base.specs.declared.rows.Leaf.{Leaf}
use Rattle.run_tree.specs.Tree.{IsLeaf, IsMember, IsPack, IsTree, Tree, is_pack, kind_at, leaf, level, member, members, primal}
use Rattle.run_tree.specs.Boundaries.{any_of, is_boundary, member_boundary, pack_boundary}
use Rattle.run_tree.proofs.KindLemmas.{KindOf, kind_of}
use Rattle.run_tree.proofs.BoundaryLemmas.{bound_dual, bound_leaf, bound_pack, member_dual, member_leaf}

-- tests that agree on the items
pub any_of_same : (p q : ℕ → Bool) (xs : List ℕ) → ((k : ℕ) → k < length xs → p (get_or xs k 0) ≡ q (get_or xs k 0)) → any_of p xs ≡ any_of q xs
any_of_same p q [] f = refl
any_of_same p q (x ∷ xs) f =
    ap (λ (b : Bool). elim b as (λ y. Bool) [ true ↦ true | false ↦ any_of p xs ]) (f 0 (omega arith))
    ∙ ap (λ (r : Bool). elim (q x) as (λ y. Bool) [ true ↦ true | false ↦ r ]) (any_of_same p q xs (λ k l. f (suc k) (omega arith)))

module _ (of_leaf : Leaf → ℕ → Bool) (t : Tree) (h : IsTree t) (v u : ℕ) (same : (x : ℕ) → IsLeaf t x → of_leaf (leaf t x) v ≡ of_leaf (leaf t x) u) where
  same_pack_boundary : (l p : ℕ) → IsPack t p → level t p ≡ l → pack_boundary of_leaf t l p v ≡ pack_boundary of_leaf t l p u
  same_pack_boundary zero p i at = any_of_same (λ x. member_boundary of_leaf (λ q w. false) (kind_at t x) v) (λ x. member_boundary of_leaf (λ q w. false)
      (kind_at t x) u) (members t p)
      (λ k b. at_kind k b (kind_of (kind_at t (member t p k))))
    where
      at_kind : (k : ℕ) (b : k < length (members t p)) → KindOf (kind_at t (member t p k)) →
          member_boundary of_leaf (λ q w. false) (kind_at t (member t p k)) v ≡ member_boundary of_leaf (λ q w. false) (kind_at t (member t p k)) u
      at_kind k b (inl a_leaf) =
          member_leaf of_leaf (λ q w. false) (kind_at t (member t p k)) v a_leaf ∙ same (member t p k) ((h.members_are p k i b).0.0, a_leaf)
          ∙ sym (member_leaf of_leaf (λ q w. false) (kind_at t (member t p k)) u a_leaf)
      at_kind k b (inr (inl a_dual)) = member_dual of_leaf (λ q w. false) (kind_at t (member t p k)) v a_dual ∙ sym (member_dual of_leaf (λ q w. false)
          (kind_at t (member t p k)) u a_dual)
      at_kind k b (inr (inr a_pack)) = absurd (both_ways (is_pack (kind_at t (member t p k))) (h.members_are p k i b).0.1 a_pack)
  same_pack_boundary (suc l) p i at = any_of_same (λ x. member_boundary of_leaf (λ q w. pack_boundary of_leaf t l q w) (kind_at t x) v)
      (λ x. member_boundary of_leaf (λ q w. pack_boundary of_leaf t l q w) (kind_at t x) u) (members t p) (λ k b. at_kind (same_pack_boundary l) k b
      (kind_of (kind_at t (member t p k))))
    where
      at_kind : ((q : ℕ) → IsPack t q → level t q ≡ l → pack_boundary of_leaf t l q v ≡ pack_boundary of_leaf t l q u) →
          (k : ℕ) (b : k < length (members t p)) → KindOf (kind_at t (member t p k)) →
          member_boundary of_leaf (λ q w. pack_boundary of_leaf t l q w) (kind_at t (member t p k)) v ≡ member_boundary of_leaf
          (λ q w. pack_boundary of_leaf t l q w) (kind_at t (member t p k)) u
      at_kind ih k b (inl a_leaf) =
          member_leaf of_leaf (λ q w. pack_boundary of_leaf t l q w) (kind_at t (member t p k)) v a_leaf ∙ same (member t p k) (
            (h.members_are p k i b).0.0,
            a_leaf,
          )
          ∙ sym (member_leaf of_leaf (λ q w. pack_boundary of_leaf t l q w) (kind_at t (member t p k)) u a_leaf)
      at_kind ih k b (inr (inl a_dual)) =
          (let d = h.duals_are (member t p k) ((h.members_are p k i b).0.0, a_dual) in
          let up = d.2 in
          let at_home = ap (level t) (h.members_are p k i b).1 in
          member_dual of_leaf (λ q w. pack_boundary of_leaf t l q w) (kind_at t (member t p k)) v a_dual
          ∙ ih (primal t (member t p k)) d.0 (omega (arith, up, at_home, at))
          ∙ sym (member_dual of_leaf (λ q w. pack_boundary of_leaf t l q w) (kind_at t (member t p k)) u a_dual))
      at_kind ih k b (inr (inr a_pack)) = absurd (both_ways (is_pack (kind_at t (member t p k))) (h.members_are p k i b).0.1 a_pack)

  -- packs
  pub same_bound_pack : (p : ℕ) → IsPack t p → is_boundary of_leaf t p v ≡ is_boundary of_leaf t p u
  same_bound_pack p i = bound_pack of_leaf t h p i v ∙ same_pack_boundary (level t p) p i refl ∙ sym (bound_pack of_leaf t h p i u)

  -- leaves and duals
  pub same_bound_member : (x : ℕ) → IsMember t x → is_boundary of_leaf t x v ≡ is_boundary of_leaf t x u
  same_bound_member x i = at_kind (kind_of (kind_at t x))
    where
      at_kind : KindOf (kind_at t x) → is_boundary of_leaf t x v ≡ is_boundary of_leaf t x u
      at_kind (inl a_leaf) = bound_leaf of_leaf t h x (i.0, a_leaf) v ∙ same x (i.0, a_leaf) ∙ sym (bound_leaf of_leaf t h x (i.0, a_leaf) u)
      at_kind (inr (inl a_dual)) =
          (let d = (h.duals_are x (i.0, a_dual)).0 in
          bound_dual of_leaf t h x (i.0, a_dual) v ∙ same_bound_pack (primal t x) d ∙ sym (bound_dual of_leaf t h x (i.0, a_dual) u))
      at_kind (inr (inr a_pack)) = absurd (both_ways (is_pack (kind_at t x)) i.1 a_pack)
