-- The duals of packs, as members are added.
use Rattle.std.proofs.Common.{◌≡◌, ℕ, suc, ◌+◌, ◌<◌, ◌≢◌, length, Some, None, ap, arith, inl, inr, sym, subst, subst₂, ◌∙◌}
use Rattle.std.proofs.lemmas.Bool.{cases_eq, both_ways}
use Rattle.sched_base.specs.declared.rows.Leaf.{Leaf}
use Rattle.run_tree.proofs.KindLemmas.{not_pack}
use Rattle.run_tree.specs.declared.kinds.Kind.TheVariants as kind
use Rattle.run_tree.specs.Tree.{Tree, kind_at, rate, home, dual, level, primal, is_dual, IsPack, IsDual}
use Rattle.tree_laws.proofs.NodeParts.{node_rate, node_home, node_dual, node_level, node_primal, is_pack_node, is_dual_node, node_id}
use Rattle.tree_laws.proofs.NewMember.{Joins, IsMade, old_pack, new_pack, old_member}
use Rattle.tree_laws.proofs.NewPack.{open_pack, open_old, open_long, new_node, opened_below, opened_pack}

pub record HasDuals (t : Tree) : Type 0 where
  pub duals_are : (x : ℕ) → IsDual t x → IsPack t (primal t x) × (dual t (primal t x) ≡ Some x) × (level t (home t x) ≡ suc (level t (primal t x)))
  pub has_dual : (p d : ℕ) → IsPack t p → dual t p ≡ Some d → IsDual t d × (primal t d ≡ p) × (rate t d + rate t p ≡ t.scale) × (rate t p < t.scale)

-- what else a new member leaves
pub record Keeps (s t : Tree) : Type 0 where
  pub duals : (x : ℕ) → x < length s.nodes → is_dual (kind_at t x) ≡ is_dual (kind_at s x)
  pub primals : (x : ℕ) → x < length s.nodes → primal t x ≡ primal s x

pub open_duals : (l : ℕ) (s : Tree) → IsMade s → l < s.levels → HasDuals s → HasDuals (open_pack l s)
open_duals l s h low d = record {
  duals_are = λ x i. elim (cases_eq x (length s.nodes)) [
    | inl e ↦ absurd (both_ways (is_dual (kind_at (open_pack l s) x)) (ap is_dual_node (new_node l s h low x e)) i.1)
    | inr ne ↦ (let b = opened_below l s h low x i.0 ne in
        let o = open_old l s x b in
        let was = d.duals_are x (b, sym (ap is_dual_node o) ∙ i.1) in
        let up = h.homes_are x (b, not_pack (kind_at s x) (sym (ap is_dual_node o) ∙ i.1)) in
        let P : ℕ → ℕ → Type 0 = λ q a. IsPack (open_pack l s) q × (dual (open_pack l s) q ≡ Some x)
        × (level (open_pack l s) a ≡ suc (level (open_pack l s) q)) in
        subst₂ P (sym (ap node_primal o)) (sym (ap node_home o)) (
          opened_pack l s h low (primal s x) was.0,
          ap node_dual (open_old l s (primal s x) was.0.0) ∙ was.1,
          ap node_level (open_old l s (home s x) up.0.0) ∙ was.2 ∙ sym (ap (λ y. suc (node_level y)) (open_old l s (primal s x) was.0.0)),
        ))
  ];
  has_dual = λ p y i e. elim (cases_eq p (length s.nodes)) [
    | inl same ↦ absurd (let z : None ≡ Some y = sym (ap node_dual (new_node l s h low p same)) ∙ e in cc)
    | inr ne ↦ (let b = opened_below l s h low p i.0 ne in
        let o = open_old l s p b in
        let was = d.has_dual p y (b, sym (ap is_pack_node o) ∙ i.1) (sym (ap node_dual o) ∙ e) in
        let oy = open_old l s y was.0.0 in (
          ((let a = was.0.0 in let g = open_long l s in omega (arith, a, g)), ap is_dual_node oy ∙ was.0.1),
          ap node_primal oy ∙ was.1,
          (let a = ap node_rate o in let g = ap node_rate oy in let f = was.2 in omega (arith, a, g, f)),
          (let a = ap node_rate o in let f = was.3 in omega (arith, a, f)),
        ))
  ];
}

-- a leaf's join leaves the duals
pub join_duals : (s t : Tree) (p r : ℕ) (leaf : Leaf) → Joins s t p r (kind.Leaf leaf) → IsMade s → Keeps s t → ((x : ℕ) → x < length s.nodes →
    dual t x ≡ dual s x) → dual s p ≡ None → HasDuals s → HasDuals t
join_duals s t p r leaf j h k same none d = record {
  duals_are = λ x i. elim (cases_eq x (length s.nodes)) [
    | inl e ↦ absurd (both_ways (is_dual (kind_at t x)) (ap (λ y. is_dual (kind_at t y)) e ∙ ap is_dual_node j.added) i.1)
    | inr ne ↦ (let b : x < length s.nodes = (let a = i.0 in let g = j.long in omega (arith, a, g, ne)) in
        let i_s : IsDual s x = (b, sym (k.duals x b) ∙ i.1) in
        let was = d.duals_are x i_s in
        let up = h.homes_are x (b, not_pack (kind_at s x) i_s.1) in
        let P : ℕ → ℕ → Type 0 = λ q a. IsPack t q × (dual t q ≡ Some x) × (level t a ≡ suc (level t q)) in
        subst₂ P (sym (k.primals x b)) (sym (j.homes x b)) (
          new_pack s t p r (kind.Leaf leaf) j h (primal s x) was.0,
          same (primal s x) was.0.0 ∙ was.1,
          j.levels (home s x) up.0.0 ∙ was.2
              ∙ sym (ap suc (j.levels (primal s x) was.0.0)),
        ))
  ];
  has_dual = λ q y i e. (
      let is = old_pack s t p r (kind.Leaf leaf) j h q i in
      let was = d.has_dual q y is (sym (same q is.0) ∙ e) in
      let no_p : q ≢ p = (λ f. let z : None ≡ Some y = sym none ∙ ap (dual s) (sym f) ∙ sym (same q is.0) ∙ e in cc) in
      let o = old_member s t p r (kind.Leaf leaf) j h y (was.0.0, not_pack (kind_at s y) was.0.1) in (
        (o.0.0, k.duals y was.0.0 ∙ was.0.1),
        k.primals y was.0.0 ∙ was.1,
        (let a = j.rates q is.0 no_p in let g = o.3 in let f = was.2 in let z = j.scale_same in omega (arith, a, g, f, z)),
        (let a = j.rates q is.0 no_p in let f = was.3 in let z = j.scale_same in omega (arith, a, f, z)),
      ));
}

-- a dual's join, which its primal then names
pub lift_duals : (s t : Tree) (p q r : ℕ) → Joins s t p r (kind.Dual (node_id q)) → IsMade s → Keeps s t → ((x : ℕ) → x < length s.nodes → x ≢ q →
    dual t x ≡ dual s x) → dual t q ≡ Some (length s.nodes) →
    dual s p ≡ None → dual s q ≡ None → IsPack s q → q ≢ p → r + rate s q ≡ s.scale → rate s q < s.scale → level s p ≡ suc (level s q) → HasDuals s → HasDuals t
lift_duals s t p q r j h k same named none_p none_q is_q apart sum less up d = record {
  duals_are = λ x i. elim (cases_eq x (length s.nodes)) [
    | inl e ↦
        (let P : ℕ → Type 0 = λ y. IsPack t (primal t y) × (dual t (primal t y) ≡ Some y) × (level t (home t y) ≡ suc (level t (primal t y))) in
        let Q : ℕ → ℕ → Type 0 = λ a b. IsPack t a × (dual t a ≡ Some (length s.nodes)) × (level t b ≡ suc (level t a)) in
        subst P (sym e) (subst₂ Q (sym (ap node_primal j.added)) (sym (ap node_home j.added))
        (new_pack s t p r (kind.Dual (node_id q)) j h q is_q, named, j.levels p j.is_p.0 ∙ up ∙ sym (ap suc (j.levels q is_q.0)))))
    | inr ne ↦ (let b : x < length s.nodes = (let a = i.0 in let g = j.long in omega (arith, a, g, ne)) in
        let i_s : IsDual s x = (b, sym (k.duals x b) ∙ i.1) in
        let was = d.duals_are x i_s in
        let home_is = h.homes_are x (b, not_pack (kind_at s x) i_s.1) in
        let other : primal s x ≢ q = (λ f. let z : None ≡ Some x = sym none_q ∙ ap (dual s) (sym f) ∙ was.1 in cc) in
        let P : ℕ → ℕ → Type 0 = λ y a. IsPack t y × (dual t y ≡ Some x) × (level t a ≡ suc (level t y)) in
        subst₂ P (sym (k.primals x b)) (sym (j.homes x b)) (
          new_pack s t p r (kind.Dual (node_id q)) j h (primal s x) was.0,
          same (primal s x) was.0.0 other ∙ was.1,
          j.levels (home s x) home_is.0.0 ∙ was.2
              ∙ sym (ap suc (j.levels (primal s x) was.0.0)),
        ))
  ];
  has_dual = λ y x i e. (
      let is = old_pack s t p r (kind.Dual (node_id q)) j h y i in
      elim (cases_eq y q) [
        | inl f ↦
            (let z : Some (length s.nodes) ≡ Some x = sym named ∙ ap (dual t) (sym f) ∙ e in
            let x_is : length s.nodes ≡ x = cc in
            let P : ℕ → ℕ → Type 0 = λ a b. IsDual t a × (primal t a ≡ b) × (rate t a + rate t b ≡ t.scale) × (rate t b < t.scale) in
            subst₂ P x_is (sym f) (
              ((let g = j.long in omega (arith, g)), ap is_dual_node j.added),
              ap node_primal j.added,
              (let a = ap node_rate j.added in let g = j.rates q is_q.0 apart in let z' = j.scale_same in omega (arith, a, g, sum, z')),
              (let g = j.rates q is_q.0 apart in let z' = j.scale_same in omega (arith, g, less, z')),
            ))
        | inr ne ↦
            (let was = d.has_dual y x is (sym (same y is.0 ne) ∙ e) in
            let no_p : y ≢ p = (λ f. let z : None ≡ Some x = sym none_p ∙ ap (dual s) (sym f) ∙ sym (same y is.0 ne) ∙ e in cc) in
            let o = old_member s t p r (kind.Dual (node_id q)) j h x (was.0.0, not_pack (kind_at s x) was.0.1) in (
              (o.0.0, k.duals x was.0.0 ∙ was.0.1),
              k.primals x was.0.0 ∙ was.1,
              (let a = j.rates y is.0 no_p in let g = o.3 in let f = was.2 in let z = j.scale_same in omega (arith, a, g, f, z)),
              (let a = j.rates y is.0 no_p in let f = was.3 in let z = j.scale_same in omega (arith, a, f, z)),
            ))
      ]);
}
