-- How many levels a tree can have.
use Rattle.std.proofs.Common.{Bool, None, Option, Some, ap, arith, eq-eqb, eqb, inl, inr, is_some, le_refl, length, mul-le-mul_right, pow-suc, refl}
use Rattle.std.proofs.Common.{suc, sym, true, zero, ℕ, ◌&&◌, ◌*◌, ◌+◌, ◌-◌, ◌<◌, ◌^◌, ◌∙◌, ◌≡◌, ◌≢◌, ◌≤◌, ◌⊎◌}
use Rattle.std.proofs.lemmas.Bool.{and_from, and_left, and_parts, and_right, both_ways, cases_Bool, cases_eq, cases_lt, eqb-true}
use Rattle.sched_base.specs.Counting.{bit, sum_to}
use Rattle.sched_base.proofs.CountingLemmas.{bit_at, bit_le, bit_off}
use Rattle.sched_base.proofs.SumLemmas.{sum_to-add, sum_to-alone, sum_to-le, sum_to-mul, sum_to-ones, sum_to-same, term-le-sum_to, two_pass, two_terms}
use Rattle.sched_base.proofs.UnitLemmas.{multiple}
use Rattle.run_tree.specs.Tree.{IsDual, IsMember, IsPack, IsTree, Tree, at_level, dual, home, is_pack, kind_at, level, member, members, primal, rate}
use Rattle.run_tree.proofs.KindLemmas.{KindOf, kind_of}
use Rattle.run_tree.proofs.TreeLemmas.{at_from, pack_at}
use Rattle.sched_laws.specs.LevelCounts.{duals_of, has_dual_at, running}
use Rattle.sched_laws.proofs.LevelMembers.{duals_are_next, number_or, some_number}
use Rattle.sched_laws.proofs.LevelCounts.{each_level}

-- how many packs a level has, and how many that are no roots
abbrev pub packs_of : Tree → ℕ → ℕ
packs_of t l = sum_to (length t.nodes) (λ p. bit (at_level t l p))

module _ (t : Tree) (h : IsTree t) where
  -- a pack of the level with a dual, and the dual
  pub dual_there : (l p : ℕ) → p < length t.nodes → has_dual_at t l p ≡ true → IsPack t p × (level t p ≡ l) × (dual t p ≡ Some (number_or (dual t p)))
  dual_there l p b e =
      let both = and_parts (at_level t l p) (is_some (dual t p)) e in
      let i = pack_at t l p b both.0 in
      (i.0, i.1, some_number (dual t p) both.1)

  -- the packs of a level have the duals of the level below as members
  pub members_count : (l : ℕ) → duals_of t l ≡ sum_to (length t.nodes) (λ p. bit (at_level t (suc l) p) * length (members t p))
  members_count l =
      sum_to-same (length t.nodes) (λ p. bit (has_dual_at t l p)) (λ p. bit (has_dual_at t l p) * 1) (λ p b. omega arith)
      ∙ duals_are_next t h l (λ x. 1)
      ∙ sum_to-same (length t.nodes) (λ p. bit (at_level t (suc l) p) * sum_to (length (members t p)) (λ k. 1)) (λ p. bit (at_level t (suc l) p) * length
      (members t p))
      (λ p b. ap (λ c. bit (at_level t (suc l) p) * c) (sum_to-ones (length (members t p))))

  -- whether pack p of level l has one member
  abbrev pub single : ℕ → ℕ → Bool
  single l p = at_level t l p && eqb (length (members t p)) 1

  -- the one member of a pack of a higher level is a dual
  pub single_dual : (l p : ℕ) → p < length t.nodes → single (suc l) p ≡ true →
      IsPack t p × (level t p ≡ suc l) × IsDual t (member t p 0) × (home t (member t p 0) ≡ p) × IsPack t (primal t (member t p 0))
      × (level t (primal t (member t p 0)) ≡ l) × (rate t p + rate t (primal t (member t p 0)) ≡ t.scale)
  single_dual l p b e =
      let both = and_parts (at_level t (suc l) p) (eqb (length (members t p)) 1) e in
      let i = pack_at t (suc l) p b both.0 in
      let one = eqb-true (length (members t p)) 1 both.1 in
      let m = h.members_are p 0 i.0 (omega (arith, one)) in
      let d = dual_member (member t p 0) m.0 (let s = ap (level t) m.1 in let a = i.1 in omega (arith, s, a)) in
      let x = h.duals_are (member t p 0) d in
      let pair = h.has_dual (primal t (member t p 0)) (member t p 0) x.0 x.1 in
      let up = x.2 in
      let s = ap (level t) m.1 in
      let at = i.1 in
      let sum = h.summed p i.0 in
      let alone = ap (λ c. sum_to c (λ k. rate t (member t p k))) one in
      (i.0, i.1, d, m.1, x.0, omega (arith, up, s, at), (let r = pair.2 in omega (arith, r, sum, alone)))
    where
      dual_member : (x : ℕ) → IsMember t x → 0 < level t (home t x) → IsDual t x
      dual_member x i high = go (kind_of (kind_at t x))
        where
          go : KindOf (kind_at t x) → IsDual t x
          go (inl a_leaf) = (let z = (h.leaves_are x (i.0, a_leaf)).0 in absurd (omega (arith, z, high)))
          go (inr (inl a_dual)) = (i.0, a_dual)
          go (inr (inr a_pack)) = absurd (both_ways (is_pack (kind_at t x)) i.1 a_pack)

  -- two packs with one member each would both be small
  pub one_single : (l : ℕ) → sum_to (length t.nodes) (λ p. bit (single (suc l) p)) ≤ 1
  one_single l = sum_to-alone (length t.nodes) (λ p. single (suc l) p) (λ j k lj lk ej ek.
      let (is_j, at_j, dual_j, home_j, up_j, low_j, sum_j) = single_dual l j lj ej in
      let (is_k, at_k, dual_k, home_k, up_k, low_k, sum_k) = single_dual l k lk ek in
      elim (cases_eq j k) [
        | inl same ↦ same
        | inr ne ↦
            (let over = h.pairs j k is_j is_k ne (at_j ∙ sym at_k) in
            let apart : primal t (member t j 0) ≢ primal t (member t k 0) = (λ e.
            let both : Some (member t j 0) ≡ Some (member t k 0) = sym (h.duals_are (member t j 0) dual_j).1 ∙ ap (dual t) e
            ∙ (h.duals_are (member t k 0) dual_k).1 in
            let same : member t j 0 ≡ member t k 0 = cc in
            ne (sym home_j ∙ ap (home t) same ∙ home_k)) in
            let under = h.pairs (primal t (member t j 0)) (primal t (member t k 0)) up_j up_k apart (low_j ∙ sym low_k) in
            absurd (omega (arith, over, under, sum_j, sum_k)))
      ])

  -- so a level has at least twice as many members as packs, but one
  pub members_pair : (l : ℕ) → 2 * packs_of t (suc l) ≤ duals_of t l + 1
  members_pair l =
      let each = sum_to-le (length t.nodes) (λ p. bit (at_level t (suc l) p) * 2) (λ p. bit (at_level t (suc l) p) * length (members t p) + bit
      (single (suc l) p)) (λ p b.
      elim (cases_Bool (at_level t (suc l) p)) [
        | inr off ↦ (let z = bit_off (at_level t (suc l) p) off in let e = ap (λ w. w * 2) z in omega (arith, e))
        | inl on ↦
            (let z = bit_at (at_level t (suc l) p) on in
            let some = h.filled p (pack_at t (suc l) p b on).0 in
            let e = ap (λ w. w * length (members t p)) z in
            elim (cases_eq (length (members t p)) 1) [
              | inl one ↦ (let s = bit_at (single (suc l) p) (and_from (at_level t (suc l) p) (eqb (length (members t p)) 1) on
                  (eq-eqb (length (members t p)) 1 one)) in omega (arith, z, e, s, one))
              | inr more ↦ omega (arith, z, e, some, more)
            ])
      ]) in
      let twice = sum_to-mul (length t.nodes) (λ p. bit (at_level t (suc l) p)) 2 in
      let parts = sum_to-add (length t.nodes) (λ p. bit (at_level t (suc l) p) * length (members t p)) (λ p. bit (single (suc l) p)) in
      let count = members_count l in
      let one = one_single l in
      omega (arith, each, twice, parts, count, one)

  -- no more packs are no roots than there are packs
  pub duals-le-packs : (l : ℕ) → duals_of t l ≤ packs_of t l
  duals-le-packs l = sum_to-le (length t.nodes) (λ p. bit (has_dual_at t l p)) (λ p. bit (at_level t l p)) (λ p b.
      elim (cases_Bool (at_level t l p)) [
        | inl on ↦ omega (arith, bit_at (at_level t l p) on, bit_le (has_dual_at t l p))
        | inr off ↦ omega (arith, bit_off (has_dual_at t l p) (and_left (at_level t l p) (is_some (dual t p)) off))
      ])

  -- every pack has a rate
  pub some_rate : (p : ℕ) → IsPack t p → 0 < rate t p
  some_rate p i =
      let m = h.members_are p 0 i (h.filled p i) in
      let first = term-le-sum_to (length (members t p)) (λ k. rate t (member t p k)) 0 (h.filled p i) in
      let sum = h.summed p i in
      let some = member_rate (member t p 0) m.0 in
      omega (arith, first, sum, some)
    where
      member_rate : (x : ℕ) → IsMember t x → 0 < rate t x
      member_rate x i = go (kind_of (kind_at t x))
        where
          go : KindOf (kind_at t x) → 0 < rate t x
          go (inl a_leaf) = (h.leaves_are x (i.0, a_leaf)).1
          go (inr (inl a_dual)) =
              (let d = h.duals_are x (i.0, a_dual) in
              let pair = h.has_dual (primal t x) x d.0 d.1 in
              let sum = pair.2 in
              let less = pair.3 in
              omega (arith, sum, less))
          go (inr (inr a_pack)) = absurd (both_ways (is_pack (kind_at t x)) i.1 a_pack)

  -- what the duals' primals have in all, which is a multiple of the scale
  abbrev pub primal_rate : ℕ → ℕ
  primal_rate l = sum_to (length t.nodes) (λ p. bit (has_dual_at t l p) * rate t p)

  -- it is
  pub primal_multiple : (l : ℕ) → l < t.levels → (c : ℕ) × (primal_rate l ≡ c * t.scale)
  primal_multiple l b =
      let count = each_level (λ leaf u. true) t h (λ x i. record { first = refl; later = λ u. (suc u, le_refl (suc u), omega arith, refl) }) l 0 b in
      let r = running (λ leaf u. true) t l 0 in
      let split = sum_to-same (length t.nodes) (λ p. bit (at_level t l p) * rate t p + bit (has_dual_at t l p) * t.scale)
      (λ p. bit (has_dual_at t l p) * rate t p + bit (at_level t l p) * t.scale) (λ p b. root_or_dual l p b) in
      let a = sum_to-add (length t.nodes) (λ p. bit (at_level t l p) * rate t p) (λ p. bit (has_dual_at t l p) * t.scale) in
      let c = sum_to-add (length t.nodes) (λ p. bit (has_dual_at t l p) * rate t p) (λ p. bit (at_level t l p) * t.scale) in
      let da = sum_to-mul (length t.nodes) (λ p. bit (has_dual_at t l p)) t.scale in
      let dc = sum_to-mul (length t.nodes) (λ p. bit (at_level t l p)) t.scale in
      let e : primal_rate l + packs_of t l * t.scale ≡ (r + duals_of t l) * t.scale = omega (arith, count, split, a, c, da, dc) in
      multiple (primal_rate l) (packs_of t l) (r + duals_of t l) t.scale e
    where
      root_or_dual : (l p : ℕ) → p < length t.nodes → bit (at_level t l p) * rate t p + bit (has_dual_at t l p) * t.scale ≡ bit (has_dual_at t l p) * rate t
          p + bit (at_level t l p) * t.scale
      root_or_dual l p b =
          elim (cases_Bool (at_level t l p)) [
            | inr off ↦
                (let z = bit_off (at_level t l p) off in
                let y = bit_off (has_dual_at t l p) (and_left (at_level t l p) (is_some (dual t p)) off) in
                omega (arith, ap (λ w. w * rate t p) z, ap (λ w. w * t.scale) z, ap (λ w. w * rate t p) y, ap (λ w. w * t.scale) y))
            | inl on ↦ go on (dual t p) refl
          ]
        where
          go : at_level t l p ≡ true → (o : Option ℕ) → dual t p ≡ o → bit (at_level t l p) * rate t p + bit (has_dual_at t l p) * t.scale ≡ bit
              (has_dual_at t l p) * rate t p + bit (at_level t l p) * t.scale
          go on None e =
              (let root = h.roots_are p (pack_at t l p b on).0 e in
              let y = bit_off (has_dual_at t l p) (and_right (at_level t l p) (is_some (dual t p)) (ap is_some e)) in
              let z = bit_at (at_level t l p) on in
              omega (arith, root, ap (λ w. w * rate t p) z, ap (λ w. w * t.scale) z, ap (λ w. w * rate t p) y, ap (λ w. w * t.scale) y))
          go on (Some d) e =
              (let y = bit_at (has_dual_at t l p) (and_from (at_level t l p) (is_some (dual t p)) on (ap is_some e)) in
              let z = bit_at (at_level t l p) on in
              omega (arith, ap (λ w. w * rate t p) z, ap (λ w. w * t.scale) z, ap (λ w. w * rate t p) y, ap (λ w. w * t.scale) y))

  -- a level with a pack that is no root has three of them
  pub three_duals : (l : ℕ) → l < t.levels → 0 < duals_of t l → 3 ≤ duals_of t l
  three_duals l b some =
      let (c, whole) = primal_multiple l b in
      let low = sum_to-le (length t.nodes) (λ p. bit (has_dual_at t l p)) (λ p. bit (has_dual_at t l p) * rate t p) (λ p lp.
      elim (cases_Bool (has_dual_at t l p)) [
        | inl on ↦ (let z = bit_at (has_dual_at t l p) on in let r = some_rate p (dual_there l p lp on).0 in omega (arith, z, ap (λ w. w * rate t p) z, r))
        | inr off ↦ (let z = bit_off (has_dual_at t l p) off in omega (arith, z))
      ]) in
      let high = sum_to-le (length t.nodes) (λ p. bit (has_dual_at t l p) * rate t p + bit (has_dual_at t l p)) (λ p. bit (has_dual_at t l p) * t.scale)
      (λ p lp.
      elim (cases_Bool (has_dual_at t l p)) [
        | inl on ↦ (let z = bit_at (has_dual_at t l p) on in
            let d = dual_there l p lp on in
            let less = (h.has_dual p (number_or (dual t p)) d.0 d.2).3 in
            omega (arith, z, ap (λ w. w * rate t p) z, ap (λ w. w * t.scale) z, less))
        | inr off ↦ (let z = bit_off (has_dual_at t l p) off in omega (arith, z, ap (λ w. w * rate t p) z, ap (λ w. w * t.scale) z))
      ]) in
      let split = sum_to-add (length t.nodes) (λ p. bit (has_dual_at t l p) * rate t p) (λ p. bit (has_dual_at t l p)) in
      let scaled = sum_to-mul (length t.nodes) (λ p. bit (has_dual_at t l p)) t.scale in
      -- the sum is c times the scale, above 0 and below the number times the scale
      let above : 0 < c = elim (cases_eq c 0)
      [ inl z ↦ absurd (let e = ap (λ w. w * t.scale) z in omega (arith, whole, low, some, e)) | inr nz ↦ omega arith ] in
      let under : c < duals_of t l = elim (cases_lt c (duals_of t l)) [
        | inl m ↦ m
        | inr m ↦ absurd (let e = mul-le-mul_right t.scale m in omega (arith, whole, high, split, scaled, some, e))
      ] in
      elim (cases_eq (duals_of t l) 2) [
        | inr ne ↦ omega (arith, above, under, ne)
        | inl two ↦
            (let (p, q, lp, lq, ne, fp, fq) = two_pass (length t.nodes) (has_dual_at t l) (omega (arith, two)) in
            let dp = dual_there l p lp fp in
            let dq = dual_there l q lq fq in
            let over = h.pairs p q dp.0 dq.0 ne (dp.1 ∙ sym dq.1) in
            let both = two_terms (length t.nodes) (λ k. bit (has_dual_at t l k) * rate t k) p q lp lq ne in
            let zp = ap (λ w. w * rate t p) (bit_at (has_dual_at t l p) fp) in
            let zq = ap (λ w. w * rate t q) (bit_at (has_dual_at t l q) fq) in
            let one : c ≡ 1 = omega (arith, above, under, two) in
            let e = ap (λ w. w * t.scale) one in
            absurd (omega (arith, over, both, zp, zq, whole, e)))
      ]

  -- a level below another one has a pack that is no root
  pub below_some : (l : ℕ) → suc l < t.levels → 0 < duals_of t l
  below_some l b =
      let (q, i, at) = h.each_level (suc l) b in
      let term = term-le-sum_to (length t.nodes) (λ p. bit (at_level t (suc l) p) * length (members t p)) q i.0 in
      let on = bit_at (at_level t (suc l) q) (at_from t (suc l) q i at) in
      let some = h.filled q i in
      let count = members_count l in
      omega (arith, term, some, count, ap (λ w. w * length (members t q)) on)

  -- k levels above level l want 2 ^ k + 1 packs that are no roots
  pub height : (k l : ℕ) → l + suc k < t.levels → 2 ^ suc k + 1 ≤ duals_of t l
  height zero l b = let some = below_some l (omega arith) in let three = three_duals l (omega arith) some in omega (arith, three)
  height (suc k) l b =
      let ih = height k (suc l) (omega (arith, b)) in
      let pairs = members_pair l in
      let less = duals-le-packs (suc l) in
      let power = pow-suc 2 (suc k) in
      omega (arith, ih, pairs, less, power)

  -- with k levels above level 0, k is 0 or 2 ^ k is at most the number of its packs that are no roots, less 1
  pub levels_bound : (k : ℕ) → suc k ≡ t.levels → (k ≡ 0) ⊎ (2 ^ k ≤ duals_of t 0 - 1)
  levels_bound zero e = inl refl
  levels_bound (suc k) e = let g = height k 0 (omega arith) in inr (omega (arith, g))

-- the same, with the numbers as the law has them
pub levels_bound_at : (t : Tree) → IsTree t → (k : ℕ) → k + 1 ≡ t.levels → (k ≡ 0) ⊎ (2 ^ k ≤ duals_of t 0 - 1)
levels_bound_at t h k e = levels_bound t h k (omega (arith, e))
