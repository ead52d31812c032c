-- How many packs of a level run at each tick.
use Rattle.std.proofs.Common.{Bool, ap, arith, eq-eqb, eqb, inl, inr, le_antisymm, le_of_eq, le_of_mul-le-mul_right, length, not, suc, sym, zero}
use Rattle.std.proofs.Common.{zero-add, ℕ, ◌*◌, ◌+◌, ◌-◌, ◌<◌, ◌∙◌, ◌≡◌}
use Rattle.std.proofs.lemmas.Bool.{and_from, and_left, and_right, both_ways, cases_Bool, ne_eqb}
use Rattle.sched_base.specs.declared.rows.Leaf.{Leaf}
use Rattle.sched_base.specs.Counting.{bit, sum_to}
use Rattle.sched_base.proofs.CountingLemmas.{bit_at, bit_not, bit_off}
use Rattle.sched_base.proofs.SumLemmas.{sum_to-add, sum_to-alone, sum_to-mul, sum_to-same, sum_to-zero, term-le-sum_to}
use Rattle.run_tree.specs.Tree.{IsPack, IsTree, Tree, at_level, dual, home, is_leaf, is_pack, kind_at, level, member, members, rate}
use Rattle.run_tree.specs.Boundaries.{HaveBoundaries}
use Rattle.run_tree.specs.Runs.{runs}
use Rattle.run_tree.proofs.KindLemmas.{KindOf, dual_no_leaf, kind_of, not_pack_leaf, pack_no_leaf}
use Rattle.run_tree.proofs.TreeLemmas.{pack_at}
use Rattle.sched_laws.specs.LevelCounts.{has_dual_at, level_rate, running}
use Rattle.sched_laws.proofs.Packs.{server_serves}
use Rattle.sched_laws.proofs.LevelRates.{member_runs, run_rests, run_root}
use Rattle.sched_laws.proofs.LevelMembers.{duals_are_next, in_level, level_reindexed, number_or, pair_rates, pair_whole, rates_next}

module _ (of_leaf : Leaf → ℕ → Bool) (t : Tree) (h : IsTree t) (leaves : HaveBoundaries of_leaf t) where
  -- a pack that runs runs one member, another one none
  pub one_member : (p n : ℕ) → IsPack t p → sum_to (length (members t p)) (λ k. bit (runs of_leaf t (member t p k) n)) ≡ bit (runs of_leaf t p n)
  one_member p n i =
      let law = server_serves of_leaf t h leaves p i in
      elim (cases_Bool (runs of_leaf t p n)) [
        | inl on ↦
            (let (k, l, run) = member_runs of_leaf t h leaves p n i on in
            let least = term-le-sum_to (length (members t p)) (λ k. bit (runs of_leaf t (member t p k) n)) k l in
            let most = sum_to-alone (length (members t p)) (λ k. runs of_leaf t (member t p k) n) (λ j k lj lk. law.alone j k n lj lk) in
            omega (arith, least, most, bit_at (runs of_leaf t p n) on, bit_at (runs of_leaf t (member t p k) n) run))
        | inr off ↦
            (let none = sum_to-zero (length (members t p)) (λ k. bit (runs of_leaf t (member t p k) n))
            (λ k l. elim (cases_Bool (runs of_leaf t (member t p k) n)) [
              | inl run ↦ absurd (both_ways (runs of_leaf t p n) off (law.within k n l run))
              | inr stay ↦ bit_off (runs of_leaf t (member t p k) n) stay
            ]) in
            omega (arith, none, bit_off (runs of_leaf t p n) off))
      ]

  -- the duals of a level that run are the packs of the next that run
  pub running_next : (l n : ℕ) → sum_to (length t.nodes) (λ p. bit (has_dual_at t l p) * bit (runs of_leaf t (number_or (dual t p)) n)) ≡ running of_leaf t
      (suc l) n
  running_next l n =
      duals_are_next t h l (λ x. bit (runs of_leaf t x n))
      ∙ sum_to-same (length t.nodes) (λ p. bit (at_level t (suc l) p) * sum_to (length (members t p)) (λ k. bit (runs of_leaf t (member t p k) n)))
      (λ p. bit (at_level t (suc l) p) * bit (runs of_leaf t p n))
      (λ p b. elim (cases_Bool (at_level t (suc l) p)) [
        | inl on ↦ ap (λ r. bit (at_level t (suc l) p) * r) (one_member p n (pack_at t (suc l) p b on).0)
        | inr off ↦ (let z = bit_off (at_level t (suc l) p) off in
            omega (arith, ap (λ w. w * sum_to (length (members t p)) (λ k. bit (runs of_leaf t (member t p k) n))) z, ap (λ w. w * bit (runs of_leaf t p n)) z))
      ])

  -- of a pack and its dual one runs at each tick
  pub pair_runs : (l p n : ℕ) → p < length t.nodes →
      bit (at_level t l p) * bit (runs of_leaf t p n) + bit (has_dual_at t l p) * bit (runs of_leaf t (number_or (dual t p)) n) ≡ bit (at_level t l p) * 1
  pair_runs l p n = pair_whole t h (λ x. bit (runs of_leaf t x n)) 1
      (λ p i e. bit_at (runs of_leaf t p n) (run_root of_leaf t h leaves p n i e))
      (λ p d i e. (let pair = bit_not (runs of_leaf t d n) in let same = ap bit (run_rests of_leaf t h leaves p d n i e) in omega (arith, pair, same))) l p

  -- from the next level to this one
  pub level_step : (l n : ℕ) → running of_leaf t (suc l) n * t.scale ≡ level_rate t (suc l) → running of_leaf t l n * t.scale ≡ level_rate t l
  level_step l n e =
      let w = sum_to (length t.nodes) (λ p. bit (at_level t l p)) in
      let ones = sum_to-same (length t.nodes) _ _ (λ p b. pair_runs l p n b) in
      let rates = sum_to-same (length t.nodes) _ _ (λ p b. pair_rates t h l p b) in
      let ones_add = sum_to-add (length t.nodes) (λ p. bit (at_level t l p) * bit (runs of_leaf t p n)) (λ p. bit (has_dual_at t l p) * bit
      (runs of_leaf t (number_or (dual t p)) n)) in
      let rates_add = sum_to-add (length t.nodes) (λ p. bit (at_level t l p) * rate t p) (λ p. bit (has_dual_at t l p) * rate t (number_or (dual t p))) in
      let units = sum_to-mul (length t.nodes) (λ p. bit (at_level t l p)) 1 in
      let scaled = sum_to-mul (length t.nodes) (λ p. bit (at_level t l p)) t.scale in
      let a = running_next l n in
      let c = rates_next t h l in
      let o : running of_leaf t l n + running of_leaf t (suc l) n ≡ w = omega (arith, ones, ones_add, a, units) in
      let both = ap (λ z. z * t.scale) o in
      omega (arith, both, rates, rates_add, scaled, c, e)

  -- at each tick the number of running packs of a level, times the scale, is the level's rate
  pub level_count : (above l n : ℕ) → l + above ≡ t.levels → running of_leaf t l n * t.scale ≡ level_rate t l
  level_count zero l n e =
      let off : (p : ℕ) → p < length t.nodes → bit (at_level t l p) ≡ 0 = (λ p b. elim (cases_Bool (at_level t l p)) [
        | inl on ↦ (let i = pack_at t l p b on in let top = h.leveled p i.0 in let at = i.1 in absurd (omega (arith, top, at, e)))
        | inr miss ↦ bit_off (at_level t l p) miss
      ]) in
      let a = sum_to-zero (length t.nodes) (λ p. bit (at_level t l p) * bit (runs of_leaf t p n)) (λ p b. let z = off p b in
      omega (arith, ap (λ w. w * bit (runs of_leaf t p n)) z)) in
      let c = sum_to-zero (length t.nodes) (λ p. bit (at_level t l p) * rate t p) (λ p b. let z = off p b in omega (arith, ap (λ w. w * rate t p) z)) in
      omega (arith, c, ap (λ w. w * t.scale) a)
  level_count (suc above) l n e = level_step l n (level_count above (suc l) n (omega (arith, e)))

module _ (of_leaf : Leaf → ℕ → Bool) (t : Tree) (h : IsTree t) (leaves : HaveBoundaries of_leaf t) where
  -- the members of level 0 are the leaves
  pub first_level : (x : ℕ) → x < length t.nodes → in_level t 0 x ≡ is_leaf (kind_at t x)
  first_level x b = go (kind_of (kind_at t x))
    where
      go : KindOf (kind_at t x) → in_level t 0 x ≡ is_leaf (kind_at t x)
      go (inl a_leaf) = and_from (not (is_pack (kind_at t x))) (eqb (level t (home t x)) 0) (ap not (not_pack_leaf (kind_at t x) a_leaf))
          (eq-eqb (level t (home t x)) 0 (h.leaves_are x (b, a_leaf)).0) ∙ sym a_leaf
      go (inr (inl a_dual)) = and_right (not (is_pack (kind_at t x))) (eqb (level t (home t x)) 0) (ne_eqb (level t (home t x)) 0 (λ z. let up =
          (h.duals_are x (b, a_dual)).2 in omega (arith, up, z))) ∙ sym (dual_no_leaf (kind_at t x) a_dual)
      go (inr (inr a_pack)) = and_left (not (is_pack (kind_at t x))) (eqb (level t (home t x)) 0) (ap not a_pack) ∙ sym (pack_no_leaf (kind_at t x) a_pack)

  -- so the rate of level 0 is that of the processors
  pub first_rate : level_rate t 0 ≡ t.processors * t.scale
  first_rate =
      sum_to-same (length t.nodes) (λ p. bit (at_level t 0 p) * rate t p) (λ p. bit (at_level t 0 p) * sum_to (length (members t p))
      (λ k. rate t (member t p k)))
      (λ p b. elim (cases_Bool (at_level t 0 p)) [
        | inl on ↦ ap (λ r. bit (at_level t 0 p) * r) (sym (h.summed p (pack_at t 0 p b on).0))
        | inr off ↦ (let z = bit_off (at_level t 0 p) off in
            omega (arith, ap (λ w. w * sum_to (length (members t p)) (λ k. rate t (member t p k))) z, ap (λ w. w * rate t p) z))
      ])
      ∙ level_reindexed t h 0 (rate t)
      ∙ sum_to-same (length t.nodes) (λ x. bit (in_level t 0 x) * rate t x) (λ x. bit (is_leaf (kind_at t x)) * rate t x) (λ x b. ap (λ w. bit w * rate t x)
      (first_level x b))
      ∙ h.total

  -- for each level
  pub each_level : (l n : ℕ) → l < t.levels → running of_leaf t l n * t.scale ≡ level_rate t l
  each_level l n b = level_count of_leaf t h leaves (t.levels - l) l n (omega arith)

  -- at each tick as many packs of level 0 run as there are processors
  pub processors_run : (n : ℕ) → running of_leaf t 0 n ≡ t.processors
  processors_run n =
      let e = level_count of_leaf t h leaves t.levels 0 n (zero-add t.levels) in
      let r = first_rate in
      let both : running of_leaf t 0 n * t.scale ≡ t.processors * t.scale = omega (arith, e, r) in
      le_antisymm (le_of_mul-le-mul_right (le_of_eq both) h.scaled) (le_of_mul-le-mul_right (le_of_eq (sym both)) h.scaled)
