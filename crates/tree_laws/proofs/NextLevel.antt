-- The level above has fewer packs, and a level of roots makes a tree.
use Rattle.std.proofs.Common.{◌≡◌, ℕ, zero, suc, ◌+◌, ◌-◌, ◌*◌, ◌<◌, ◌≤◌, Bool, cond, List, [], ◌∷◌, map, length, get_or, refl, ap, arith, inl, inr}
use Rattle.std.proofs.Common.{sym, subst, ap₂, ◌∙◌, filter, mul-le-mul_right}
use Rattle.std.proofs.lemmas.Bool.{cases_eq, cases_lt, cases_Bool, ltb-true, ltb-false, lt-ltb}
use Rattle.std.proofs.lemmas.List.{length-map, get_or-map}
use Rattle.run_tree.specs.Tree.{Tree, rate, level, IsTree}
use Rattle.sched_base.proofs.UnitLemmas.{multiple}
use Rattle.sched_base.specs.FirstFit.{packed_from}
use Rattle.run_tree.specs.Making.{Making, Item, last_rates, dual_items, lower_packs, new_level}
use Rattle.run_tree.specs.Compiled.{level_above}
use Rattle.tree_laws.proofs.MakingSteps.{last_at, IsMaking}
use Rattle.tree_laws.proofs.PackItems.{IsPacked, pack_duals, parts}
use Rattle.tree_laws.proofs.LastLevel.{kept_in, kept_from, total, AllSome, IsLevel, is_lower, pair_last, begun, total_packed, some_packed}
use Rattle.tree_laws.proofs.LastLevel.{packed_keeps, fewer_packs}

abbrev pub dual_rates : Tree → List ℕ → List ℕ
dual_rates t qs = map (λ (x : Item). x.rate) (dual_items t qs)

pub duals_have_no_part : (t : Tree) (qs : List ℕ) → parts (dual_items t qs) ≡ 0
duals_have_no_part t [] = refl
duals_have_no_part t (q ∷ qs) = let ih = duals_have_no_part t qs in omega (arith, ih)

pub duals_some : (t : Tree) (qs : List ℕ) → ((i : ℕ) → i < length qs → rate t (get_or qs i 0) < t.scale) → AllSome (dual_rates t qs)
duals_some t [] h = tt
duals_some t (q ∷ qs) h = ((let a = h 0 (omega arith) in omega (arith, a)), duals_some t qs (λ i l. h (suc i) (omega arith)))

pub duals_long : (t : Tree) (qs : List ℕ) → length (dual_rates t qs) ≡ length qs
duals_long t [] = refl
duals_long t (q ∷ qs) = ap suc (duals_long t qs)

-- what the duals of the lower packs have in all
pub lower_total : (m : Making) (ps : List ℕ) → ((i : ℕ) → i < length ps → rate m.tree (get_or ps i 0) ≤ m.tree.scale) →
    total (dual_rates m.tree (filter (is_lower m) ps)) + total (map (rate m.tree) ps) ≡ length ps * m.tree.scale
lower_total m [] h = omega arith
lower_total m (p ∷ ps) h =
    let ih = lower_total m ps (λ i l. h (suc i) (omega arith)) in
    let here = h 0 (omega arith) in
    let f : List ℕ → ℕ = λ xs. total (dual_rates m.tree xs) in
    elim (cases_Bool (is_lower m p)) [
      | inl on ↦ (let e = ap f (ap (λ b. cond b (p ∷ filter (is_lower m) ps) (filter (is_lower m) ps)) on) in let l = ltb-true (rate m.tree p) m.tree.scale
          on in omega (arith, ih, here, e, l))
      | inr off ↦ (let e = ap f (ap (λ b. cond b (p ∷ filter (is_lower m) ps) (filter (is_lower m) ps)) off) in let l = ltb-false (rate m.tree p)
          m.tree.scale off in omega (arith, ih, here, e, l))
    ]

pub filter_le : (f : ℕ → Bool) (ps : List ℕ) → length (filter f ps) ≤ length ps
filter_le f [] = omega arith
filter_le f (p ∷ ps) =
    (let ih = filter_le f ps in
    elim (cases_Bool (f p)) [
      | inl on ↦ (let e = ap length (ap (λ b. cond b (p ∷ filter f ps) (filter f ps)) on) in omega (arith, e, ih))
      | inr off ↦ (let e = ap length (ap (λ b. cond b (p ∷ filter f ps) (filter f ps)) off) in omega (arith, e, ih))
    ])

pub some_at : (rs : List ℕ) (i : ℕ) → AllSome rs → i < length rs → 0 < get_or rs i 0
some_at [] i a l = absurd (omega arith)
some_at (r ∷ rs) zero a l = a.0
some_at (r ∷ rs) (suc i) a l = some_at rs i a.1 (omega arith)

-- fewer packs than duals
pub enough : (m : Making) → IsLevel m → (qs : List ℕ) → IsMaking (new_level m) qs → (k n : ℕ) → 0 < length qs →
    total (dual_rates m.tree qs) + k * m.tree.scale ≡ n * m.tree.scale →
    ((i : ℕ) → i < length qs → (j : ℕ) × (j < length m.last) × (last_at m j ≡ get_or qs i 0)) → length (packed_from m.tree.scale (dual_rates m.tree qs) [])
    < length qs
enough m v [] h k n l whole in_last = absurd (omega arith)
enough m v (q ∷ []) h k n l whole in_last =
    let (j, lj, e) = in_last 0 (omega arith) in
    let less = (h.waiting 0 (omega arith)).3 in
    let long = length-map m.last (rate m.tree) in
    let some = some_at (last_rates m) j v.positive (omega (arith, lj, long)) in
    let at = get_or-map (rate m.tree) m.last j 0 0 lj ∙ ap (rate m.tree) e in
    let (c, is) = multiple (total (dual_rates m.tree (q ∷ []))) k n m.tree.scale whole in
    absurd (elim (cases_eq c 0) [
      | inl z ↦ (let f = ap (λ x. x * m.tree.scale) z in omega (arith, is, f, less, some, at))
      | inr nz ↦ (let f : 1 * m.tree.scale ≤ c * m.tree.scale = mul-le-mul_right m.tree.scale (omega arith) in omega (arith, is, f, less, some, at))
    ])
enough m v (q ∷ r ∷ qs) h k n l whole in_last =
    let wq = h.waiting 0 (omega arith) in
    let wr = h.waiting 1 (omega arith) in
    let over = pair_last m v.making v.pairs q r wq.0 wr.0 (λ e. (let z = h.apart 0 1 (omega arith) (omega arith) e in omega (arith, z))) (let a = wq.1 in
    omega (arith, a)) (let a = wr.1 in omega (arith, a)) in
    let lq = wq.3 in let lr = wr.3 in
    let f = fewer_packs m.tree.scale (m.tree.scale - rate m.tree q) (m.tree.scale - rate m.tree r) (dual_rates m.tree qs) (omega (arith, over, lq, lr)) in
    let long = duals_long m.tree qs in
    omega (arith, f, long)

-- the duals of the packs that aren't roots, packed
pub lift_packed : (m : Making) → IsLevel m → IsPacked (new_level m) (level_above m (lower_packs m)) (dual_items m.tree (lower_packs m))
lift_packed m v = pack_duals (lower_packs m) m.tree (new_level m) (begun m v) v.filled tt refl (λ i l. refl)

-- what the duals and the roots have in all
pub lift_whole : (m : Making) → IsLevel m → (k : ℕ) × (total (dual_rates m.tree (lower_packs m)) + k * m.tree.scale ≡ length m.last * m.tree.scale)
lift_whole m v =
    let both = lower_total m m.last (λ i l. v.making.made.within (last_at m i) (v.making.last_packs i l).0) in
    let (k, whole) = v.whole in
    (k, omega (arith, both, whole))

-- the level above has fewer packs than this one has packs that aren't roots
pub lift_fewer : (m : Making) → IsLevel m → 0 < length (lower_packs m) → length (level_above m (lower_packs m)).last < length (lower_packs m)
lift_fewer m v some =
    let (k, whole) = lift_whole m v in
    let packs = ap length (lift_packed m v).rates in
    let less = enough m v (lower_packs m) (begun m v) k (length m.last) some whole (λ i l. (let (j, lj, e, ok) = kept_in (is_lower m) m.last i l in
    (j, lj, e))) in
    let long = length-map (level_above m (lower_packs m)).last (rate (level_above m (lower_packs m)).tree) in
    omega (arith, packs, less, long)

-- the level above is whole again
pub lift_level : (m : Making) → IsLevel m → 0 < length (lower_packs m) → IsLevel (level_above m (lower_packs m))
lift_level m v some =
    let qs = lower_packs m in
    let p : IsPacked (new_level m) (level_above m qs) (dual_items m.tree qs) = lift_packed m v in
    let less : (i : ℕ) → i < length qs → rate m.tree (get_or qs i 0) < m.tree.scale = (λ i l. ((begun m v).waiting i l).3) in
    let sum = ap total p.rates ∙ total_packed m.tree.scale (dual_rates m.tree qs) [] in
    let (k, whole) = lift_whole m v in
    let (c, is) = multiple (total (last_rates (level_above m qs))) k (length m.last) m.tree.scale (omega (arith, sum, whole)) in
    let long = length-map (level_above m qs).last (rate (level_above m qs).tree) in
    record {
      scaled = (let a = p.scale_same in let z = v.scaled in omega (arith, a, z));
      making = p.making;
      filled = p.filled;
      pairs = p.pairs;
      positive = subst AllSome (sym p.rates) (some_packed m.tree.scale (dual_rates m.tree qs) [] (duals_some m.tree qs less) tt);
      whole = (c, is ∙ ap (λ s. c * s) (sym p.scale_same));
      some = (let a = ap length p.rates in let b = one_left m.tree.scale (dual_rates m.tree qs) (let d = duals_long m.tree qs in omega (arith, d, some)) in
          omega (arith, a, b, long));
      leaves = (let a = p.sum in let z = duals_have_no_part m.tree qs in let l = v.leaves in
          omega (arith, a, z, l, ap₂ (λ x y. x * y) p.processors_same p.scale_same));
    }
  where
    one_left : (scale : ℕ) (rs : List ℕ) → 0 < length rs → 0 < length (packed_from scale rs [])
    one_left scale [] l = absurd (omega arith)
    one_left scale (r ∷ rs) l = (let a = packed_keeps scale rs (r ∷ []) in omega (arith, a))

-- a level of roots makes a tree
pub is_tree : (m : Making) → IsLevel m → length (lower_packs m) ≡ 0 → IsTree m.tree
is_tree m v done = record {
  scaled = v.scaled;
  total = v.leaves;
  leveled = v.making.made.leveled;
  filled = v.filled;
  summed = v.making.made.summed;
  within = v.making.made.within;
  members_are = v.making.made.members_are;
  homes_are = v.making.made.homes_are;
  leaves_are = v.making.made.leaves_are;
  duals_are = v.making.duals.duals_are;
  each_level = λ l lo. elim (cases_lt (suc l) m.tree.levels) [
    | inl b ↦ v.making.each_below l b
    | inr ge ↦ (let a = v.making.last_packs 0 v.some in (last_at m 0, a.0, (let z = a.1 in omega (arith, z, ge, lo))))
  ];
  pairs = λ p q i j ne same. elim (cases_lt (suc (level m.tree p)) m.tree.levels) [
    | inl l ↦ v.making.pairs_below p q i j ne same l
    | inr ge ↦ (let lo = v.making.made.leveled p i in pair_last m v.making v.pairs p q i j ne (omega (arith, ge, lo)) (omega (arith, ge, lo, same)))
  ];
  roots_are = λ p i none. elim (cases_lt (suc (level m.tree p)) m.tree.levels) [
    | inl l ↦ elim (v.making.roots_below p i l none) [ inl e ↦ e | inr a ↦ absurd (let b = a.1 in omega (arith, b)) ]
    | inr ge ↦ elim (cases_lt (rate m.tree p) m.tree.scale) [
      | inr full ↦ (let w = v.making.made.within p i in omega (arith, w, full))
      | inl less ↦ absurd (let lo = v.making.made.leveled p i in
          let (k, lk, e) = v.making.last_all p i (omega (arith, ge, lo)) in
          let (j, lj, at) = kept_from (is_lower m) m.last k lk (ap (is_lower m) e ∙ lt-ltb (rate m.tree p) m.tree.scale less) in omega (arith, lj, done))
    ]
  ];
  has_dual = v.making.duals.has_dual;
}
