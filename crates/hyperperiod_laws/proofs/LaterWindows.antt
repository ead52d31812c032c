-- Windows so many units later.
use Rattle.std.proofs.Common.{Bool, ap, arith, false, inl, inr, le_refl, mod-lt, div-add-mod', subst, true, zero, suc, ℕ, ◌*◌, ◌+◌, ◌-◌, ◌/◌, ◌<◌}
use Rattle.std.proofs.Common.{◌∙◌, ◌≡◌, ◌≤◌}
use Rattle.std.proofs.lemmas.Bool.{both_ways, cases_lt}
use native.Mathlib.Nat.{div-eq_of_lt-le}
use Rattle.sched_base.specs.Counting.{bit, ticks}
use Rattle.sched_base.proofs.CountingLemmas.{bit_le}
use Rattle.run_tree.specs.Windows.{HasBoundaries, window_begin, window_end}
use Rattle.run_tree.proofs.WindowLemmas.{begin_is, end_is, same_IsBegin, same_IsEnd}

-- the unit of a tick so many units later
pub unit_later : (n c l : ℕ) → 0 < l → (n + c * l) / l ≡ n / l + c
unit_later n c l p =
    let a = div-add-mod' n l in
    let b = mod-lt n p in
    div-eq_of_lt-le l (omega (arith, a)) (omega (arith, a, b))

-- ticks at which it holds as at those so many before
pub ticks_later : (f : ℕ → Bool) (d n : ℕ) → ((m : ℕ) → m < n → f (m + d) ≡ f m) → ticks f (n + d) ≡ ticks f d + ticks f n
ticks_later f d zero same = (let e : 0 + d ≡ d = omega arith in let s = ap (ticks f) e in omega (arith, s))
ticks_later f d (suc n) same =
    let ih = ticks_later f d n (λ m l. same m (omega (arith, l))) in
    let e : suc n + d ≡ suc (n + d) = omega arith in
    let s = ap (ticks f) e in
    let last = ap bit (same n (omega arith)) in
    omega (arith, s, ih, last)

-- and so between two of them
pub ticks_between : (f : ℕ → Bool) (d a k : ℕ) → ((m : ℕ) → a ≤ m → m < a + k → f (m + d) ≡ f m) → ticks f (a + k + d) + ticks f a ≡ ticks f (a + d) + ticks
    f (a + k)
ticks_between f d a zero same =
    let e : a + 0 + d ≡ a + d = omega arith in
    let e' : a + 0 ≡ a = omega arith in
    let s = ap (ticks f) e in
    let s' = ap (ticks f) e' in
    omega (arith, s, s')
ticks_between f d a (suc k) same =
    let ih = ticks_between f d a k (λ m l h. same m l (omega (arith, h))) in
    let e : a + suc k + d ≡ suc (a + k + d) = omega arith in
    let e' : a + suc k ≡ suc (a + k) = omega arith in
    let s = ap (ticks f) e in
    let s' = ap (ticks f) e' in
    let last = ap bit (same (a + k) (omega arith) (omega arith)) in
    omega (arith, s, s', ih, last)

-- ticks below a number
pub ticks-le-all : (f : ℕ → Bool) (n : ℕ) → ticks f n ≤ n
ticks-le-all f zero = omega arith
ticks-le-all f (suc n) = let ih = ticks-le-all f n in let one = bit_le (f n) in omega (arith, ih, one)

-- a boundary is where its window begins
pub begins_here : (b : ℕ → Bool) → HasBoundaries b → (u : ℕ) → b u ≡ true → window_begin b u ≡ u
begins_here b has u at = same_IsBegin b u (window_begin b u) u (begin_is b has.first u)
    (record { below = le_refl u; here = at; last = λ v p q. absurd (omega (arith, p, q)) })

-- above each unit from `from` on there is a boundary within `units`
abbrev pub AreWithin : (ℕ → Bool) → ℕ → ℕ → Type 0
AreWithin b units from = (u : ℕ) → from ≤ u → (v : ℕ) × (u < v) × (v ≤ u + units) × (b v ≡ true)

-- so a window ends within `units` of each unit from there on that isn't before it
pub ends_within : (b : ℕ → Bool) → HasBoundaries b → (units from : ℕ) → AreWithin b units from → (m u : ℕ) → from ≤ m → u ≤ m → window_end b u ≤ m + units
ends_within b has units from within m u low up =
    let (v, above, near, at) = within m low in
    elim (cases_lt v (window_end b u)) [
      | inl late ↦ absurd (both_ways (b v) ((end_is b has u).first v (omega (arith, above, up)) late) at)
      | inr soon ↦ omega (arith, soon, near)
    ]

-- where boundaries from a unit on come again `units` later, up to a limit
module _ (b : ℕ → Bool) (has : HasBoundaries b) (units limit from : ℕ)
    (later : (u : ℕ) → from ≤ u → u + units < limit → b (u + units) ≡ b u) where
  -- so many units later there is no boundary where there is none
  none_later : (v : ℕ) → from + units ≤ v → v < limit → b (v - units) ≡ false → b v ≡ false
  none_later v low up off =
      let e : v - units + units ≡ v = omega (arith, low) in
      let P : ℕ → Type 0 = λ w. b w ≡ false in
      subst P e (later (v - units) (omega (arith, low)) (omega (arith, low, up)) ∙ off)

  -- windows that begin from there on begin so many units later
  pub begins_later : (u : ℕ) → from ≤ window_begin b u → u + units < limit → window_begin b (u + units) ≡ window_begin b u + units
  begins_later u after l =
      let x = begin_is b has.first u in
      let low = x.below in
      same_IsBegin b (u + units) (window_begin b (u + units)) (window_begin b u + units) (begin_is b has.first (u + units))
      (record {
        below = omega (arith, low);
        here = later (window_begin b u) after (omega (arith, low, l)) ∙ x.here;
        last = λ v p q. none_later v (omega (arith, after, p)) (omega (arith, q, l)) (x.last (v - units) (omega (arith, p)) (omega (arith, p, q)));
      })

  -- and one that is open at a unit from there on is open so many units later
  pub still_later : (w u : ℕ) → from ≤ w → w ≤ u → window_begin b u ≤ w → u + units < limit → window_begin b (u + units) ≤ w + units
  still_later w u low up begun l =
      let x = begin_is b has.first u in
      let y = begin_is b has.first (u + units) in
      elim (cases_lt (w + units) (window_begin b (u + units))) [
        | inr soon ↦ soon
        | inl late ↦
            (let below = y.below in
            let off = none_later (window_begin b (u + units)) (omega (arith, low, late)) (omega (arith, below, l))
            (x.last (window_begin b (u + units) - units) (omega (arith, begun, late)) (omega (arith, below))) in
            absurd (both_ways (b (window_begin b (u + units))) off y.here))
      ]

  -- and end so many units later
  pub ends_later : (u : ℕ) → from ≤ u → window_end b u + units < limit → window_end b (u + units) ≡ window_end b u + units
  ends_later u after l =
      let x = end_is b has u in
      let above = x.above in
      same_IsEnd b (u + units) (window_end b (u + units)) (window_end b u + units) (end_is b has (u + units))
      (record {
        above = omega (arith, above);
        here = later (window_end b u) (omega (arith, after, above)) l ∙ x.here;
        first = λ v p q. none_later v (omega (arith, after, p)) (omega (arith, q, l)) (x.first (v - units) (omega (arith, p)) (omega (arith, p, q)));
      })
