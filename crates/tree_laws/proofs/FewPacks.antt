-- Where first fit needs at most as many packs as there are processors, level 0 has roots alone.
use Rattle.std.proofs.Common.{◌≡◌, ℕ, zero, suc, ◌+◌, ◌-◌, ◌*◌, ◌/◌, ◌<◌, ◌≤◌, cond, List, [], ◌∷◌, map, length, filter, min, max, sum, None, refl}
use Rattle.std.proofs.Common.{ap, ap₂, arith, inl, inr, sym, subst, ◌∙◌, mul-le-mul_right}
use Rattle.std.proofs.lemmas.Bool.{cases_lt, le-ltb}
use Rattle.std.proofs.lemmas.List.{length-map, length-replicate}
use Rattle.std.proofs.Math.Nat.{mul-div_cancel}
use Rattle.std.specs.List.{AllByRecursion}
use Rattle.run_tree.specs.Tree.{rate, level, dual, IsPack}
use Rattle.sched_base.specs.FirstFit.{packed_from, idles}
use Rattle.run_tree.specs.Making.{Making, started, last_rates}
use Rattle.run_tree.specs.Compiled.{pack_items, task_items, first_level, all_levels, tree_of_rates}
use Rattle.tree_laws.proofs.LastLevel.{total, is_lower}
use Rattle.tree_laws.proofs.RaisedLevels.{climb_none}
use Rattle.tree_laws.proofs.FirstLevel.{first_is, filled_in, packed, packed_total, amounts, amounts_total, rates_within, task_rates, same_total}

-- the whole rate on few packs leaves none below the scale
pub all_full : (scale m : ℕ) (rs : List ℕ) → AllByRecursion (λ r. r ≤ scale) rs → m * scale ≤ total rs → length rs ≤ m → AllByRecursion (λ r. scale ≤ r) rs
all_full scale m [] h t l = tt
all_full scale zero (r ∷ rs) h t l = absurd (omega arith)
all_full scale (suc m) (r ∷ rs) h t l =
    let most = total_le scale rs h.1 in
    let few : length rs * scale ≤ m * scale = mul-le-mul_right scale (omega arith) in
    let w = h.0 in
    (omega (arith, t, most, few), all_full scale m rs h.1 (omega (arith, t, w)) (omega arith))
  where
    total_le : (scale : ℕ) (rs : List ℕ) → AllByRecursion (λ r. r ≤ scale) rs → total rs ≤ length rs * scale
    total_le scale [] h = omega arith
    total_le scale (r ∷ rs) h = (let ih = total_le scale rs h.1 in let w = h.0 in omega (arith, ih, w))

pub none_lower : (m : Making) (ps : List ℕ) → AllByRecursion (λ r. m.tree.scale ≤ r) (map (rate m.tree) ps) → filter (is_lower m) ps ≡ []
none_lower m [] h = refl
none_lower m (p ∷ ps) h = ap (λ b. cond b (p ∷ filter (is_lower m) ps) (filter (is_lower m) ps)) (le-ltb (rate m.tree p) m.tree.scale h.0) ∙ none_lower m ps h.1

-- where level 0 has few packs it is the whole tree
pub one_level : (processors scale : ℕ) (rates : List ℕ) → 0 < processors → 0 < scale → AllByRecursion (λ r. (0 < r) × (r ≤ scale)) rates →
    total rates ≤ processors * scale →
    length (first_level processors scale rates).last ≤ processors → (p : ℕ) → IsPack (tree_of_rates processors scale rates) p →
    level (tree_of_rates processors scale rates) p ≡ 0 → dual (tree_of_rates processors scale rates) p ≡ None
unfolding tree_of_rates
one_level processors scale rates p q each fits few =
    let m : Making = first_level processors scale rates in
    let v = first_is processors scale rates p q each fits in
    let f = filled_in processors scale rates p q each fits in
    let g = packed processors scale rates p q each fits in
    let long = length-map m.last (rate m.tree) in
    let a = f.sums in
    let b = packed_total processors scale rates p q each fits in
    let c = amounts_total processors scale rates p q each fits in
    let same = ap (λ s. processors * s) (f.scale_same ∙ g.scale_same) in
    let full = all_full m.tree.scale processors (last_rates m) (rates_within m v.making) (omega (arith, a, b, c, same, fits)) (omega (arith, long, few)) in
    let still : all_levels m ≡ m = climb_none (length m.last) m (ap length (none_lower m m.last full)) in
    let P : Making → Type 0 = λ n. (x : ℕ) → IsPack n.tree x → level n.tree x ≡ 0 → dual n.tree x ≡ None in
    subst P (sym still) (λ x i low. (
    let one = f.making.some_level in
    let levels : m.tree.levels ≡ 1 = levels_one processors scale rates p q each fits in
    let (k, lk, e) = v.making.last_all x i (omega (arith, low, levels)) in
    sym (ap (dual m.tree) e) ∙ (v.making.last_packs k lk).2))
  where
    levels_one : (processors scale : ℕ) (rates : List ℕ) (p : 0 < processors) (q : 0 < scale) (each : AllByRecursion (λ r. (0 < r) × (r ≤ scale)) rates)
        (fits : total rates ≤ processors * scale) → (first_level processors scale rates).tree.levels ≡ 1
    levels_one processors scale rates p q each fits = (filled_in processors scale rates p q each fits).levels_same ∙ (packed processors scale rates p q each
        fits).levels_same

-- ---- the number of packs of level 0

pub none_long : (scale slack : ℕ) (rs : List ℕ) → 0 < scale → slack ≡ 0 → length (idles scale slack rs) ≡ length rs
none_long scale slack [] p z =
    let e : slack ≡ 0 * scale = omega (arith, z) in
    let q = ap (λ x. x / scale) e ∙ mul-div_cancel 0 p in
    let n = length-replicate (slack / scale) scale in omega (arith, q, n)
none_long scale slack (r ∷ rs) p z = let ih = none_long scale (slack - min (scale - r) slack) rs p (omega arith) in omega (arith, ih)

pub idles_long : (scale slack m : ℕ) (rs : List ℕ) → 0 < scale → AllByRecursion (λ r. r ≤ scale) rs → slack + total rs ≡ m * scale →
    length (idles scale slack rs) ≤ max m (length rs)
idles_long scale slack m [] p h e =
    let f : slack ≡ m * scale = omega (arith, e) in
    let q = ap (λ x. x / scale) f ∙ mul-div_cancel m p in
    let n = length-replicate (slack / scale) scale in omega (arith, q, n)
idles_long scale slack zero (r ∷ rs) p h e = let z = none_long scale (slack - min (scale - r) slack) rs p (omega arith) in omega (arith, z)
idles_long scale slack (suc m) (r ∷ rs) p h e =
    let w = h.0 in
    elim (cases_lt slack (scale - r)) [
      | inl l ↦ (let z = none_long scale (slack - min (scale - r) slack) rs p (omega (arith, l)) in omega (arith, z))
      | inr ge ↦ (let ih = idles_long scale (slack - min (scale - r) slack) m rs p h.1 (omega (arith, e, ge, w)) in omega (arith, ih))
    ]

-- each pack of level 0 is offered an amount, as is each further one
pub amounts_long : (processors scale : ℕ) (rates : List ℕ) (p : 0 < processors) (q : 0 < scale) (each : AllByRecursion (λ r. (0 < r) × (r ≤ scale)) rates)
    (fits : total rates ≤ processors * scale) →
    length (amounts processors scale rates p q each fits) ≤ max processors (length (packed_from scale rates []))
amounts_long processors scale rates p q each fits =
    let m : Making = pack_items (task_items 0 rates) (started processors scale) in
    let g = packed processors scale rates p q each fits in
    let room : m.tree.processors * m.tree.scale ≡ processors * scale = ap₂ (λ a b. a * b) g.processors_same g.scale_same in
    let s = same_total (last_rates m) in
    let t = packed_total processors scale rates p q each fits in
    let z = g.scale_same in
    let n = idles_long m.tree.scale (m.tree.processors * m.tree.scale - sum (last_rates m)) m.tree.processors (last_rates m) (omega (arith, z, q))
    (rates_within m g.making) (omega (arith, room, s, t, fits)) in
    let servers = ap length (g.rates ∙ ap (λ rs. packed_from scale rs []) (task_rates 0 rates)) in
    let same = g.processors_same in
    omega (arith, n, servers, same)

-- level 0 has as many packs as first fit needs, or as there are processors
pub first_long : (processors scale : ℕ) (rates : List ℕ) → 0 < processors → 0 < scale → AllByRecursion (λ r. (0 < r) × (r ≤ scale)) rates →
    total rates ≤ processors * scale →
    length (first_level processors scale rates).last ≤ max processors (length (packed_from scale rates []))
first_long processors scale rates p q each fits =
    let few = amounts_long processors scale rates p q each fits in
    let servers = ap length ((packed processors scale rates p q each fits).rates ∙ ap (λ rs. packed_from scale rs []) (task_rates 0 rates)) in
    let packs = (filled_in processors scale rates p q each fits).packs in
    let long = length-map (first_level processors scale rates).last (rate (first_level processors scale rates).tree) in
    omega (arith, few, servers, packs, long)
