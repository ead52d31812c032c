-- The duals of the packs of a level are the members of the packs of the next.
use Rattle.std.proofs.Common.{Bool, None, Option, Some, ap, arith, eq-eqb, eqb, inl, inr, is_some, length, not, refl, subst, suc, sym, true, ℕ, ◌&&◌}
use Rattle.std.proofs.Common.{◌*◌, ◌+◌, ◌<◌, ◌∙◌, ◌≡◌}
use Rattle.std.proofs.lemmas.Bool.{and_from, and_left, and_parts, and_right, both_ways, cases_Bool, eqb-true, ne_eqb, not-true}
use Rattle.sched_base.specs.Counting.{bit, sum_to}
use Rattle.sched_base.proofs.BoolLemmas.{same_Bool}
use Rattle.sched_base.proofs.CountingLemmas.{bit_at, bit_off}
use Rattle.sched_base.proofs.SumLemmas.{reindex, sum_to-one, sum_to-same, sum_to-swap, sum_to-times, sum_to-zero}
use Rattle.run_tree.specs.Tree.{IsPack, IsTree, Tree, at_level, dual, home, is_dual, is_pack, kind_at, level, member, members, place, primal, rate}
use Rattle.run_tree.proofs.KindLemmas.{KindOf, kind_of, leaf_no_dual, not_pack}
use Rattle.run_tree.proofs.TreeLemmas.{at_from, pack_at}
use Rattle.sched_laws.specs.LevelCounts.{has_dual_at, level_rate}

-- the number, where there is one
abbrev pub number_or : Option ℕ → ℕ
number_or None = 0
number_or (Some d) = d

-- there is one
pub some_number : (o : Option ℕ) → is_some o ≡ true → o ≡ Some (number_or o)
some_number None e = cc
some_number (Some d) e = refl

-- members of the packs of a level
abbrev pub in_level : Tree → ℕ → ℕ → Bool
in_level t l x = not (is_pack (kind_at t x)) && eqb (level t (home t x)) l

-- duals of the packs of a level
abbrev pub dual_in_level : Tree → ℕ → ℕ → Bool
dual_in_level t l x = is_dual (kind_at t x) && eqb (level t (primal t x)) l

module _ (t : Tree) (h : IsTree t) where
  -- the members of one pack
  pub members_reindexed : (p : ℕ) → IsPack t p → (g : ℕ → ℕ) →
      sum_to (length (members t p)) (λ k. g (member t p k)) ≡ sum_to (length t.nodes) (λ x. bit (not (is_pack (kind_at t x)) && eqb (home t x) p) * g x)
  members_reindexed p i g =
      sum_to-same (length (members t p)) (λ k. g (member t p k)) (λ k. bit true * g (member t p k)) (λ k l. omega arith)
      ∙ reindex (length (members t p)) (length t.nodes) (λ k. true) (λ x. not (is_pack (kind_at t x)) && eqb (home t x) p) (member t p) (place t)
      (record {
        there = λ k l e. (let m = h.members_are p k i l in (
          m.0.0,
          and_from (not (is_pack (kind_at t (member t p k)))) (eqb (home t (member t p k)) p) (ap not m.0.1) (eq-eqb (home t (member t p k)) p
              m.1),
          m.2,
        ));
        back = λ x l e. (
            let both = and_parts (not (is_pack (kind_at t x))) (eqb (home t x) p) e in
            let at = h.homes_are x (l, not-true (is_pack (kind_at t x)) both.0) in
            let same = eqb-true (home t x) p both.1 in
            let P : ℕ → Type 0 = λ q. (place t x < length (members t q)) × (true ≡ true) × (member t q (place t x) ≡ x) in
            subst P same (at.1, refl, at.2));
      }) g

  -- the members of all packs of a level
  pub level_reindexed : (l : ℕ) (g : ℕ → ℕ) →
      sum_to (length t.nodes) (λ p. bit (at_level t l p) * sum_to (length (members t p)) (λ k. g (member t p k)))
      ≡ sum_to (length t.nodes) (λ x. bit (in_level t l x) * g x)
  level_reindexed l g =
      let term : ℕ → ℕ → ℕ = λ p x. bit (at_level t l p) * (bit (not (is_pack (kind_at t x)) && eqb (home t x) p) * g x) in
      sum_to-same (length t.nodes) (λ p. bit (at_level t l p) * sum_to (length (members t p)) (λ k. g (member t p k))) (λ p. sum_to (length t.nodes)
      (λ x. term p x))
      (λ p b. elim (cases_Bool (at_level t l p)) [
        | inl on ↦ (ap (λ s. bit (at_level t l p) * s) (members_reindexed p (pack_at t l p b on).0 g)
            ∙ sym (sum_to-times (length t.nodes) (bit (at_level t l p)) (λ x. bit (not (is_pack (kind_at t x)) && eqb (home t x) p) * g x)))
        | inr off ↦
            (let z = bit_off (at_level t l p) off in
            let none = sum_to-zero (length t.nodes) (λ x. term p x) (λ x lx. omega (
              arith,
              ap (λ w. w * (bit (not (is_pack (kind_at t x)) && eqb (home t x) p) * g x)) z,
            )) in
            omega (arith, none, ap (λ w. w * sum_to (length (members t p)) (λ k. g (member t p k))) z))
      ])
      ∙ sum_to-swap (length t.nodes) (length t.nodes) term
      ∙ sum_to-same (length t.nodes) (λ x. sum_to (length t.nodes) (λ p. term p x)) (λ x. bit (in_level t l x) * g x)
      (λ x b. elim (cases_Bool (is_pack (kind_at t x))) [
        | inl on ↦
            (let z = bit_off (in_level t l x) (and_left (not (is_pack (kind_at t x))) (eqb (level t (home t x)) l) (ap not on)) in
            let none = sum_to-zero (length t.nodes) (λ p. term p x) (λ p lp.
            let y = bit_off (not (is_pack (kind_at t x)) && eqb (home t x) p) (and_left (not (is_pack (kind_at t x))) (eqb (home t x) p) (ap not on)) in
            omega (arith, ap (λ w. bit (at_level t l p) * (w * g x)) y)) in
            omega (arith, none, ap (λ w. w * g x) z))
        | inr off ↦
            (let at = h.homes_are x (b, off) in
            let one = sum_to-one (length t.nodes) (λ p. term p x) (home t x) at.0.0 (λ p lp ne.
            let y = bit_off (not (is_pack (kind_at t x)) && eqb (home t x) p) (and_right (not (is_pack (kind_at t x))) (eqb (home t x) p)
            (ne_eqb (home t x) p (λ s. ne (sym s)))) in
            omega (arith, ap (λ w. bit (at_level t l p) * (w * g x)) y)) in
            let here = bit_at (not (is_pack (kind_at t x)) && eqb (home t x) (home t x)) (and_from (not (is_pack (kind_at t x))) (eqb (home t x) (home t x))
            (ap not off) (eq-eqb (home t x) (home t x) refl)) in
            let same : in_level t l x ≡ at_level t l (home t x) = ap (λ a. a && eqb (level t (home t x)) l) (ap not off ∙ sym at.0.1) in
            let e = ap (λ w. bit w * g x) same in
            omega (arith, one, ap (λ w. bit (at_level t l (home t x)) * (w * g x)) here, e))
      ])

  -- the duals of a level's packs
  pub duals_reindexed : (l : ℕ) (g : ℕ → ℕ) →
      sum_to (length t.nodes) (λ p. bit (has_dual_at t l p) * g (number_or (dual t p)))
      ≡ sum_to (length t.nodes) (λ x. bit (dual_in_level t l x) * g x)
  duals_reindexed l g =
      reindex (length t.nodes) (length t.nodes) (has_dual_at t l) (dual_in_level t l) (λ p. number_or (dual t p)) (primal t)
      (record {
        there = λ p b e. (
            let both = and_parts (at_level t l p) (is_some (dual t p)) e in
            let i = pack_at t l p b both.0 in
            let d = h.has_dual p (number_or (dual t p)) i.0 (some_number (dual t p) both.1) in (
              d.0.0,
              and_from (is_dual (kind_at t (number_or (dual t p)))) (eqb (level t (primal t (number_or (dual t p)))) l) d.0.1
                  (eq-eqb (level t (primal t (number_or (dual t p)))) l (ap (level t) d.1 ∙ i.1)),
              d.1,
            ));
        back = λ x b e. (
            let both = and_parts (is_dual (kind_at t x)) (eqb (level t (primal t x)) l) e in
            let d = h.duals_are x (b, both.0) in (
              d.0.0,
              and_from (at_level t l (primal t x)) (is_some (dual t (primal t x))) (at_from t l (primal t x) d.0 (eqb-true (level t (primal t x)) l
                  both.1)) (ap is_some d.1),
              ap number_or d.1,
            ));
      }) g

  -- a member of the next level is a dual of this one
  pub next_level : (l x : ℕ) → x < length t.nodes → in_level t (suc l) x ≡ dual_in_level t l x
  next_level l x b = go (kind_of (kind_at t x))
    where
      go : KindOf (kind_at t x) → in_level t (suc l) x ≡ dual_in_level t l x
      go (inl a_leaf) = same_Bool (in_level t (suc l) x) (dual_in_level t l x)
          (λ e. (let both = and_parts (not (is_pack (kind_at t x))) (eqb (level t (home t x)) (suc l)) e in
          let low = (h.leaves_are x (b, a_leaf)).0 in
          let up = eqb-true (level t (home t x)) (suc l) both.1 in
          absurd (omega (arith, low, up))))
          (λ e. (let both = and_parts (is_dual (kind_at t x)) (eqb (level t (primal t x)) l) e in
          absurd (both_ways (is_dual (kind_at t x)) (leaf_no_dual (kind_at t x) a_leaf) both.0)))
      go (inr (inl a_dual)) = same_Bool (in_level t (suc l) x) (dual_in_level t l x)
          (λ e. (let both = and_parts (not (is_pack (kind_at t x))) (eqb (level t (home t x)) (suc l)) e in
          let d = (h.duals_are x (b, a_dual)).2 in
          let up = eqb-true (level t (home t x)) (suc l) both.1 in
          and_from (is_dual (kind_at t x)) (eqb (level t (primal t x)) l) a_dual (eq-eqb (level t (primal t x)) l (omega (arith, d, up)))))
          (λ e. (let both = and_parts (is_dual (kind_at t x)) (eqb (level t (primal t x)) l) e in
          let d = (h.duals_are x (b, a_dual)).2 in
          let at = eqb-true (level t (primal t x)) l both.1 in
          and_from (not (is_pack (kind_at t x))) (eqb (level t (home t x)) (suc l)) (ap not (not_pack (kind_at t x) a_dual)) (eq-eqb (level t (home t x))
          (suc l) (omega (arith, d, at)))))
      go (inr (inr a_pack)) = same_Bool (in_level t (suc l) x) (dual_in_level t l x)
          (λ e. (let both = and_parts (not (is_pack (kind_at t x))) (eqb (level t (home t x)) (suc l)) e in
          absurd (both_ways (is_pack (kind_at t x)) (not-true (is_pack (kind_at t x)) both.0) a_pack)))
          (λ e. (let both = and_parts (is_dual (kind_at t x)) (eqb (level t (primal t x)) l) e in
          absurd (both_ways (is_pack (kind_at t x)) (not_pack (kind_at t x) both.0) a_pack)))

  -- the duals of a level's packs are the members of the next level's packs
  pub duals_are_next : (l : ℕ) (g : ℕ → ℕ) →
      sum_to (length t.nodes) (λ p. bit (has_dual_at t l p) * g (number_or (dual t p)))
      ≡ sum_to (length t.nodes) (λ p. bit (at_level t (suc l) p) * sum_to (length (members t p)) (λ k. g (member t p k)))
  duals_are_next l g =
      duals_reindexed l g
      ∙ sum_to-same (length t.nodes) (λ x. bit (dual_in_level t l x) * g x) (λ x. bit (in_level t (suc l) x) * g x) (λ x b. ap (λ w. bit w * g x)
      (sym (next_level l x b)))
      ∙ sym (level_reindexed (suc l) g)

  -- the rates of the duals come to those of the next level
  pub rates_next : (l : ℕ) → sum_to (length t.nodes) (λ p. bit (has_dual_at t l p) * rate t (number_or (dual t p))) ≡ level_rate t (suc l)
  rates_next l =
      duals_are_next l (rate t)
      ∙ sum_to-same (length t.nodes) (λ p. bit (at_level t (suc l) p) * sum_to (length (members t p)) (λ k. rate t (member t p k)))
      (λ p. bit (at_level t (suc l) p) * rate t p)
      (λ p b. elim (cases_Bool (at_level t (suc l) p)) [
        | inl on ↦ ap (λ r. bit (at_level t (suc l) p) * r) (h.summed p (pack_at t (suc l) p b on).0)
        | inr off ↦ (let z = bit_off (at_level t (suc l) p) off in
            omega (arith, ap (λ w. w * sum_to (length (members t p)) (λ k. rate t (member t p k))) z, ap (λ w. w * rate t p) z))
      ])

  -- where a root's value is the whole, and a pack's and its dual's come to it together, so it is with each pack of a level
  pub pair_whole : (value : ℕ → ℕ) (whole : ℕ) → ((p : ℕ) → IsPack t p → dual t p ≡ None → value p ≡ whole) → ((p d : ℕ) → IsPack t p → dual t p ≡ Some d →
      value d + value p ≡ whole) →
      (l p : ℕ) → p < length t.nodes → bit (at_level t l p) * value p + bit (has_dual_at t l p) * value (number_or (dual t p)) ≡ bit (at_level t l p) * whole
  pair_whole value whole roots pairs l p b =
      elim (cases_Bool (at_level t l p)) [
        | inr off ↦
            (let z = bit_off (at_level t l p) off in
            let y = bit_off (has_dual_at t l p) (and_left (at_level t l p) (is_some (dual t p)) off) in
            omega (arith, ap (λ w. w * value p) z, ap (λ w. w * value (number_or (dual t p))) y, ap (λ w. w * whole) z))
        | inl on ↦ go on (dual t p) refl
      ]
    where
      go : at_level t l p ≡ true → (o : Option ℕ) → dual t p ≡ o → bit (at_level t l p) * value p + bit (has_dual_at t l p) * value (number_or (dual t p))
          ≡ bit (at_level t l p) * whole
      go on None e =
          (let z = bit_at (at_level t l p) on in
          let y = bit_off (has_dual_at t l p) (and_right (at_level t l p) (is_some (dual t p)) (ap is_some e)) in
          let root = roots p (pack_at t l p b on).0 e in
          omega (arith, root, ap (λ w. w * value p) z, ap (λ w. w * value (number_or (dual t p))) y, ap (λ w. w * whole) z))
      go on (Some d) e =
          (let z = bit_at (at_level t l p) on in
          let y = bit_at (has_dual_at t l p) (and_from (at_level t l p) (is_some (dual t p)) on (ap is_some e)) in
          let pair = pairs p d (pack_at t l p b on).0 e in
          let same = ap (λ o. value (number_or o)) e in
          omega (arith, pair, same, ap (λ w. w * value p) z, ap (λ w. w * value (number_or (dual t p))) y, ap (λ w. w * whole) z))

  pub pair_rates : (l p : ℕ) → p < length t.nodes → bit (at_level t l p) * rate t p + bit (has_dual_at t l p) * rate t (number_or (dual t p)) ≡ bit
      (at_level t l p) * t.scale
  pair_rates l p = pair_whole (rate t) t.scale (λ p i e. h.roots_are p i e) (λ p d i e. (h.has_dual p d i e).2) l p
