-- The windows of a pack, by those of its members.
use Rattle.std.proofs.Common.{Bool, ap, arith, false, inl, inr, length, refl, suc, sym, zero, ℕ, ◌<◌, ◌∙◌, ◌≡◌, ◌≤◌}
use Rattle.std.proofs.lemmas.Bool.{both_ways}
use Rattle.sched_base.specs.declared.rows.Leaf.{Leaf}
use Rattle.run_tree.specs.Windows.{window_end}
use Rattle.run_tree.specs.Tree.{IsPack, IsTree, Tree, is_pack, kind_at, level, member, members, primal}
use Rattle.run_tree.specs.Boundaries.{HaveBoundaries, is_boundary, member_boundary, pack_boundary}
use Rattle.run_tree.proofs.KindLemmas.{KindOf, kind_of}
use Rattle.run_tree.proofs.WindowLemmas.{end_is, same_IsEnd}
use Rattle.run_tree.proofs.BoundaryLemmas.{any_of_none, bound_dual, bound_leaf, bound_member, bound_pack, member_dual, member_has, member_leaf, pack_has}

module _ (of_leaf : Leaf → ℕ → Bool) (t : Tree) (h : IsTree t) (leaves : HaveBoundaries of_leaf t) where
  -- what a pack reads of a member is the member's test
  pub member_value : (p k u : ℕ) → IsPack t p → (l : k < length (members t p)) → (f : ℕ → ℕ → Bool) →
      ((q : ℕ) → IsPack t q → suc (level t q) ≡ level t p → f q u ≡ pack_boundary of_leaf t (level t q) q u) →
      member_boundary of_leaf f (kind_at t (member t p k)) u ≡ is_boundary of_leaf t (member t p k) u
  member_value p k u i l f same = go (kind_of (kind_at t (member t p k)))
    where
      go : KindOf (kind_at t (member t p k)) → member_boundary of_leaf f (kind_at t (member t p k)) u ≡ is_boundary of_leaf t (member t p k) u
      go (inl a_leaf) = member_leaf of_leaf f (kind_at t (member t p k)) u a_leaf ∙ sym (bound_leaf of_leaf t h (member t p k) (
        (h.members_are p k i l).0.0,
        a_leaf,
      ) u)
      go (inr (inl a_dual)) =
          (let d = h.duals_are (member t p k) ((h.members_are p k i l).0.0, a_dual) in
          let up = d.2 in
          let at = ap (level t) (h.members_are p k i l).1 in
          member_dual of_leaf f (kind_at t (member t p k)) u a_dual
          ∙ same (primal t (member t p k)) d.0 (omega (arith, up, at))
          ∙ sym (bound_pack of_leaf t h (primal t (member t p k)) d.0 u)
          ∙ sym (bound_dual of_leaf t h (member t p k) ((h.members_are p k i l).0.0, a_dual) u))
      go (inr (inr a_pack)) = absurd (both_ways (is_pack (kind_at t (member t p k))) (h.members_are p k i l).0.1 a_pack)

  -- where no member has a boundary, the pack has none
  pub no_member_bound : (p u : ℕ) → IsPack t p → ((k : ℕ) → k < length (members t p) → is_boundary of_leaf t (member t p k) u ≡ false) →
      is_boundary of_leaf t p u ≡ false
  no_member_bound p u i none = bound_pack of_leaf t h p i u ∙ go (level t p) refl
    where
      go : (n : ℕ) → level t p ≡ n → pack_boundary of_leaf t n p u ≡ false
      go zero at = any_of_none (λ x. member_boundary of_leaf (λ q v. false) (kind_at t x) u) (members t p)
          (λ k l. member_value p k u i l (λ q v. false) (λ q j up. absurd (omega (arith, up, at))) ∙ none k l)
      go (suc n) at = any_of_none (λ x. member_boundary of_leaf (λ q v. pack_boundary of_leaf t n q v) (kind_at t x) u) (members t p)
          (λ k l. member_value p k u i l (λ q v. pack_boundary of_leaf t n q v) (λ q j up. ap (λ m. pack_boundary of_leaf t m q u) (omega (arith, up, at)))
          ∙ none k l)

  -- a pack's window ends with the first of its members'
  pub pack_end : (p k u : ℕ) → IsPack t p → k < length (members t p) →
      ((j : ℕ) → j < length (members t p) → window_end (is_boundary of_leaf t (member t p k)) u ≤ window_end (is_boundary of_leaf t (member t p j)) u) →
      window_end (is_boundary of_leaf t p) u ≡ window_end (is_boundary of_leaf t (member t p k)) u
  pack_end p k u i l least =
      let has = pack_has of_leaf t h leaves (level t p) p i refl in
      let e = end_is (is_boundary of_leaf t (member t p k)) (member_has of_leaf t h leaves (member t p k) (h.members_are p k i l).0) u in
      same_IsEnd (is_boundary of_leaf t p) u (window_end (is_boundary of_leaf t p) u) (window_end (is_boundary of_leaf t (member t p k)) u)
      (end_is (is_boundary of_leaf t p) has u)
      (record {
        above = e.above;
        here = bound_member of_leaf t h p k i l (window_end (is_boundary of_leaf t (member t p k)) u) e.here;
        first = λ v low high. no_member_bound p v i (λ j m.
            (end_is (is_boundary of_leaf t (member t p j)) (member_has of_leaf t h leaves (member t p j) (h.members_are p j i m).0) u).first v low
            (let b = least j m in omega (arith, b)));
      })
