-- A level with all its packs, and how the next one begins.
use Rattle.std.proofs.Common.{◌≡◌, ℕ, zero, suc, ◌+◌, ◌*◌, ◌<◌, ◌≤◌, ◌≢◌, Bool, true, cond, List, [], ◌∷◌, length, get_or, None, refl, ap, arith, inl}
use Rattle.std.proofs.Common.{inr, sym, subst, ◌∙◌, nat_lt, filter}
use Rattle.std.proofs.lemmas.Bool.{cases_eq, cases_lt, cases_Bool, ltb-true, lt-ltb}
use Rattle.std.proofs.lemmas.List.{length-map, get_or-map}
use Rattle.std.specs.List.{AllByRecursion}
use Rattle.run_tree.specs.Tree.{rate, level, dual, IsPack}
use Rattle.sched_base.specs.FirstFit.{first_with_room, with_item, packed_from}
use Rattle.run_tree.specs.Making.{Making, last_rates, lower_packs, new_level}
use Rattle.tree_laws.proofs.MakingSteps.{last_at, Among, IsMaking}
use Rattle.tree_laws.proofs.FirstFitRates.{room_is, PairsExceed, pairs_at, with_item_some}
use Rattle.tree_laws.proofs.PutMember.{Filled, leaf_sum}

-- what a filter keeps
pub kept_in : (f : ℕ → Bool) (ps : List ℕ) (i : ℕ) → i < length (filter f ps) → (j : ℕ) × (j < length ps) × (get_or ps j 0 ≡ get_or (filter f ps) i 0)
    × (f (get_or (filter f ps) i 0) ≡ true)
kept_in f [] i l = absurd (omega arith)
kept_in f (p ∷ ps) i l =
    elim (cases_Bool (f p)) [
      | inl on ↦ (let P : List ℕ → Type 0 = λ xs. i < length xs → (j : ℕ) × (j < length (p ∷ ps)) × (get_or (p ∷ ps) j 0 ≡ get_or xs i 0)
          × (f (get_or xs i 0) ≡ true) in
          subst P (sym (ap (λ b. cond b (p ∷ filter f ps) (filter f ps)) on)) (at (λ k m. kept_in f ps k m) on i) l)
      | inr off ↦ (let P : List ℕ → Type 0 = λ xs. i < length xs → (j : ℕ) × (j < length (p ∷ ps)) × (get_or (p ∷ ps) j 0 ≡ get_or xs i 0)
          × (f (get_or xs i 0) ≡ true) in
          subst P (sym (ap (λ b. cond b (p ∷ filter f ps) (filter f ps)) off)) (λ m. (let (j, lj, e, ok) = kept_in f ps i m in (suc j, omega arith, e, ok))) l)
    ]
  where
    at : ((i : ℕ) → i < length (filter f ps) → (j : ℕ) × (j < length ps) × (get_or ps j 0 ≡ get_or (filter f ps) i 0)
        × (f (get_or (filter f ps) i 0) ≡ true)) → f p ≡ true → (i : ℕ) → i < length (p ∷ filter f ps) → (j : ℕ) × (j < length (p ∷ ps))
        × (get_or (p ∷ ps) j 0 ≡ get_or (p ∷ filter f ps) i 0) × (f (get_or (p ∷ filter f ps) i 0) ≡ true)
    at rec on zero m = (0, omega arith, refl, on)
    at rec on (suc i) m = (let (j, lj, e, ok) = rec i (omega arith) in (suc j, omega arith, e, ok))

pub kept_from : (f : ℕ → Bool) (ps : List ℕ) (j : ℕ) → j < length ps → f (get_or ps j 0) ≡ true → Among (get_or ps j 0) (filter f ps)
kept_from f [] j l on = absurd (omega arith)
kept_from f (p ∷ ps) zero l on =
    let P : List ℕ → Type 0 = λ xs. Among p xs in
    subst P (sym (ap (λ b. cond b (p ∷ filter f ps) (filter f ps)) on)) (0, omega arith, refl)
kept_from f (p ∷ ps) (suc j) l on =
    let (i, li, e) = kept_from f ps j (omega arith) on in
    elim (cases_Bool (f p)) [
      | inl y ↦ (let P : List ℕ → Type 0 = λ xs. Among (get_or ps j 0) xs in subst P (sym (ap (λ b. cond b (p ∷ filter f ps) (filter f ps)) y)) (
        suc i,
        omega arith,
        e,
      ))
      | inr n ↦ (let P : List ℕ → Type 0 = λ xs. Among (get_or ps j 0) xs in subst P (sym (ap (λ b. cond b (p ∷ filter f ps) (filter f ps)) n)) (i, li, e))
    ]

abbrev pub AreApart : List ℕ → Type 0
AreApart ps = (i j : ℕ) → i < length ps → j < length ps → get_or ps i 0 ≡ get_or ps j 0 → i ≡ j

pub kept_apart : (f : ℕ → Bool) (ps : List ℕ) → AreApart ps → AreApart (filter f ps)
kept_apart f [] h = h
kept_apart f (p ∷ ps) h =
    let tail : AreApart (filter f ps) = kept_apart f ps (λ i j li lj e. (let z = h (suc i) (suc j) (omega arith) (omega arith) e in omega (arith, z))) in
    elim (cases_Bool (f p)) [
      | inl on ↦ subst AreApart (sym (ap (λ b. cond b (p ∷ filter f ps) (filter f ps)) on)) (whole tail)
      | inr off ↦ subst AreApart (sym (ap (λ b. cond b (p ∷ filter f ps) (filter f ps)) off)) tail
    ]
  where
    never : (j : ℕ) → j < length (filter f ps) → p ≡ get_or (filter f ps) j 0 → ⊥
    never j l e = let (k, lk, at, ok) = kept_in f ps j l in let z = h 0 (suc k) (omega arith) (omega arith) (e ∙ sym at) in omega (arith, z)

    whole : AreApart (filter f ps) → AreApart (p ∷ filter f ps)
    whole tail zero zero li lj e = refl
    whole tail zero (suc j) li lj e = absurd (never j (omega arith) e)
    whole tail (suc i) zero li lj e = absurd (never i (omega arith) (sym e))
    whole tail (suc i) (suc j) li lj e = ap suc (tail i j (omega arith) (omega arith) e)

abbrev pub total : List ℕ → ℕ
total [] = 0
total (r ∷ rs) = r + total rs

abbrev pub AllSome : List ℕ → Type 0
AllSome rs = AllByRecursion (λ r. 0 < r) rs

-- a level with all its packs
pub record IsLevel (m : Making) : Type 0 where
  pub scaled : 0 < m.tree.scale
  pub making : IsMaking m []
  pub filled : Filled m.tree
  pub pairs : PairsExceed m.tree.scale (last_rates m)
  pub positive : AllSome (last_rates m)
  pub whole : (k : ℕ) × (total (last_rates m) ≡ k * m.tree.scale)
  pub some : 0 < length m.last
  pub leaves : leaf_sum m.tree ≡ m.tree.processors * m.tree.scale

abbrev pub is_lower : Making → ℕ → Bool
is_lower m p = nat_lt (rate m.tree p) m.tree.scale

pub pair_last : (m : Making) → IsMaking m [] → PairsExceed m.tree.scale (last_rates m) → (p q : ℕ) → IsPack m.tree p → IsPack m.tree q → p ≢ q →
    suc (level m.tree p) ≡ m.tree.levels → suc (level m.tree q) ≡ m.tree.levels → m.tree.scale < rate m.tree p + rate m.tree q
pair_last m h pairs p q ip iq ne top_p top_q =
    let (i, li, ei) = h.last_all p ip top_p in
    let (j, lj, ej) = h.last_all q iq top_q in
    let long = length-map m.last (rate m.tree) in
    let ri = get_or-map (rate m.tree) m.last i 0 0 li ∙ ap (rate m.tree) ei in
    let rj = get_or-map (rate m.tree) m.last j 0 0 lj ∙ ap (rate m.tree) ej in
    elim (cases_lt i j) [
      | inl l ↦ (let a = pairs_at m.tree.scale (last_rates m) pairs i j l (omega (arith, lj, long)) in omega (arith, a, ri, rj))
      | inr ge ↦ elim (cases_lt j i) [
        | inl l ↦ (let a = pairs_at m.tree.scale (last_rates m) pairs j i l (omega (arith, li, long)) in omega (arith, a, ri, rj))
        | inr le ↦ absurd (ne (sym ei ∙ ap (last_at m) (omega (arith, ge, le)) ∙ ej))
      ]
    ]

-- the next level begins
pub begun : (m : Making) → IsLevel m → IsMaking (new_level m) (lower_packs m)
begun m v = record {
  made = record {
    leveled = λ p i. (let a = v.making.made.leveled p i in omega (arith, a));
    summed = v.making.made.summed;
    within = v.making.made.within;
    members_are = v.making.made.members_are;
    homes_are = v.making.made.homes_are;
    leaves_are = v.making.made.leaves_are;
  };
  duals = record { duals_are = v.making.duals.duals_are; has_dual = v.making.duals.has_dual };
  some_level = omega arith;
  last_packs = λ i l. absurd (omega arith);
  last_all = λ p i top. absurd (let a = v.making.made.leveled p i in omega (arith, a, top));
  last_apart = λ i j l. absurd (omega arith);
  pairs_below = λ p q i j ne same lo. elim (cases_lt (suc (level m.tree p)) m.tree.levels) [
    | inl l ↦ v.making.pairs_below p q i j ne same l
    | inr ge ↦ pair_last m v.making v.pairs p q i j ne (omega (arith, ge, lo)) (omega (arith, ge, lo, same))
  ];
  roots_below = λ p i lo none. elim (cases_lt (suc (level m.tree p)) m.tree.levels) [
    | inl l ↦ elim (v.making.roots_below p i l none) [ inl e ↦ inl e | inr a ↦ absurd (let b = a.1 in omega (arith, b)) ]
    | inr ge ↦ elim (cases_lt (rate m.tree p) m.tree.scale) [
      | inr full ↦ inl (let w = v.making.made.within p i in omega (arith, w, full))
      | inl less ↦
          (let (k, lk, e) = v.making.last_all p i (omega (arith, ge, lo)) in
          let P : ℕ → Type 0 = λ x. Among x (lower_packs m) in
          inr (subst P e (kept_from (is_lower m) m.last k lk (ap (is_lower m) e ∙ lt-ltb (rate m.tree p) m.tree.scale less))))
    ]
  ];
  each_below = λ l lo. elim (cases_lt (suc l) m.tree.levels) [
    | inl b ↦ v.making.each_below l b
    | inr ge ↦ (let a = v.making.last_packs 0 v.some in (last_at m 0, a.0, (let z = a.1 in omega (arith, z, ge, lo))))
  ];
  waiting = λ i l. (let (j, lj, e, ok) = kept_in (is_lower m) m.last i l in
      let P : ℕ → Type 0 = λ x. rate m.tree x < m.tree.scale → IsPack m.tree x × (suc (suc (level m.tree x)) ≡ suc m.tree.levels) × (dual m.tree x ≡ None)
      × (rate m.tree x < m.tree.scale) in
      subst P e (λ less. (let a = v.making.last_packs j lj in (a.0, ap suc a.1, a.2, less))) (ltb-true (rate m.tree (get_or (lower_packs m) i 0))
      m.tree.scale ok));
  apart = kept_apart (is_lower m) m.last v.making.last_apart;
}

-- sums and lengths of packed rates
pub total_with_item : (r b : ℕ) (ss : List ℕ) → total (with_item r b ss) ≡ total ss + r
total_with_item r b [] = omega arith
total_with_item r zero (s ∷ ss) = omega arith
total_with_item r (suc b) (s ∷ ss) = let ih = total_with_item r b ss in omega (arith, ih)

pub total_packed : (scale : ℕ) (rs ss : List ℕ) → total (packed_from scale rs ss) ≡ total ss + total rs
total_packed scale [] ss = omega arith
total_packed scale (r ∷ rs) ss =
    let ih = total_packed scale rs (with_item r (first_with_room scale r ss) ss) in
    let a = total_with_item r (first_with_room scale r ss) ss in
    omega (arith, ih, a)

pub some_with_item : (r b : ℕ) (ss : List ℕ) → 0 < r → AllSome ss → AllSome (with_item r b ss)
some_with_item r b [] h a = (h, tt)
some_with_item r zero (s ∷ ss) h a = (omega arith, a.1)
some_with_item r (suc b) (s ∷ ss) h a = (a.0, some_with_item r b ss h a.1)

pub some_packed : (scale : ℕ) (rs ss : List ℕ) → AllSome rs → AllSome ss → AllSome (packed_from scale rs ss)
some_packed scale [] ss h a = a
some_packed scale (r ∷ rs) ss h a = some_packed scale rs (with_item r (first_with_room scale r ss) ss) h.1 (some_with_item r (first_with_room scale r ss) ss
    h.0 a)

pub length_with_item : (r b : ℕ) (ss : List ℕ) → length (with_item r b ss) ≤ suc (length ss)
length_with_item r b [] = omega arith
length_with_item r zero (s ∷ ss) = omega arith
length_with_item r (suc b) (s ∷ ss) = let ih = length_with_item r b ss in omega (arith, ih)

pub length_packed : (scale : ℕ) (rs ss : List ℕ) → length (packed_from scale rs ss) ≤ length rs + length ss
length_packed scale [] ss = omega arith
length_packed scale (r ∷ rs) ss =
    let ih = length_packed scale rs (with_item r (first_with_room scale r ss) ss) in
    let a = length_with_item r (first_with_room scale r ss) ss in
    omega (arith, ih, a)

pub packed_keeps : (scale : ℕ) (rs ss : List ℕ) → length ss ≤ length (packed_from scale rs ss)
packed_keeps scale [] ss = omega arith
packed_keeps scale (r ∷ rs) ss =
    let ih = packed_keeps scale rs (with_item r (first_with_room scale r ss) ss) in
    let a = with_item_some r (first_with_room scale r ss) ss in
    omega (arith, ih, a)

-- two that fit in one pack leave a pack less than items
pub fewer_packs : (scale r s : ℕ) (rs : List ℕ) → r + s ≤ scale → length (packed_from scale (r ∷ s ∷ rs) []) < length (r ∷ s ∷ rs)
fewer_packs scale r s rs fits =
    let first : first_with_room scale s (r ∷ []) ≡ 0 = zero_room in
    let e = ap (λ b. length (packed_from scale rs (with_item s b (r ∷ [])))) first in
    let a = length_packed scale rs ((r + s) ∷ []) in
    omega (arith, e, a)
  where
    zero_room : first_with_room scale s (r ∷ []) ≡ 0
    zero_room =
        (let room = room_is scale s (r ∷ []) in
        let low = room.low in
        elim (cases_eq (first_with_room scale s (r ∷ [])) 0) [
          | inl z ↦ z
          | inr nz ↦ absurd (let full = room.full 0 (omega arith) in omega (arith, full, fits))
        ])
