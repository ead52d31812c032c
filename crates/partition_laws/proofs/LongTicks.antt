-- Ticks that are longer by a factor.
use Rattle.std.proofs.Common.{Bool, ap, ap₂, arith, div-add-mod', inl, inr, mul-le-mul_left, suc, zero, ℕ, ◌%◌, ◌*◌, ◌+◌, ◌-◌, ◌/◌, ◌<◌, ◌≡◌, ◌≤◌}
use Rattle.std.proofs.Math.Nat.{div-eq_of_lt, mul-sub}
use Rattle.sched_base.specs.Counting.{bit, ticks}
use Rattle.sched_base.proofs.UnitLemmas.{next_unit}

-- ticks that pass where a longer tick does, counted: all of each longer tick that passed, and what went by of the one that lasts
pub ticks_scaled : (g h : ℕ → Bool) (f : ℕ) → 0 < f → (n : ℕ) → ((m : ℕ) → m < n → g m ≡ h (m / f)) → ticks g n ≡ f * ticks h (n / f) + n % f * bit (h (n / f))
ticks_scaled g h f p zero same =
    let q : 0 / f ≡ 0 = div-eq_of_lt p in
    let a = div-add-mod' 0 f in
    let r : 0 % f ≡ 0 = omega (arith, a) in
    let t : f * ticks h (0 / f) + 0 % f * bit (h (0 / f)) ≡ f * ticks h 0 + 0 * bit (h 0) = ap₂ (λ u v. f * ticks h u + v * bit (h u)) q r in
    omega (arith, t)
ticks_scaled g h f p (suc n) same =
    let ih = ticks_scaled g h f p n (λ m l. same m (omega (arith, l))) in
    let here = ap bit (same n (omega arith)) in
    let a = div-add-mod' n f in
    let b = div-add-mod' (suc n) f in
    elim (next_unit n f p) [
      | inl still ↦
          (let c = ap (λ w. w * f) still in
          let r : suc n % f ≡ suc (n % f) = omega (arith, a, b, c) in
          let t : f * ticks h (suc n / f) + suc n % f * bit (h (suc n / f)) ≡ f * ticks h (n / f) + suc (n % f) * bit (h (n / f)) =
          ap₂ (λ u v. f * ticks h u + v * bit (h u)) still r in
          omega (arith, ih, here, t))
      | inr next ↦
          (let c = ap (λ w. w * f) next.0 in
          let z = next.1 in
          let r : n % f + 1 ≡ f = omega (arith, a, b, c, z) in
          let t : f * ticks h (suc n / f) + suc n % f * bit (h (suc n / f)) ≡ f * ticks h (suc (n / f)) + 0 * bit (h (suc (n / f))) =
          ap₂ (λ u v. f * ticks h u + v * bit (h u)) next.0 z in
          let whole = ap (λ w. w * bit (h (n / f))) r in
          omega (arith, ih, here, t, whole))
    ]

-- what is left, where the due and the ticks that ran count f times, and some more ran
pub left_scaled : (f due now begun more : ℕ) → begun ≤ now → f * due - (f * now + more - f * begun) ≡ f * (due - (now - begun)) - more
left_scaled f due now begun more l =
    let a = mul-sub f due (now - begun) in
    let b = mul-sub f now begun in
    let c = mul-le-mul_left f l in
    omega (arith, a, b, c)

-- a tick that begins a longer one
pub step_at : (n f : ℕ) → 0 < f → suc n % f ≡ 0 → suc n / f ≡ suc (n / f)
step_at n f p z = elim (next_unit n f p) [
  | inl still ↦
      (let a = div-add-mod' n f in
      let b = div-add-mod' (suc n) f in
      let c = ap (λ w. w * f) still in
      absurd (omega (arith, a, b, c, z)))
  | inr next ↦ next.0
]

-- a tick within a longer one
pub step_inside : (n f : ℕ) → 0 < f → 0 < suc n % f → suc n / f ≡ n / f
step_inside n f p some = elim (next_unit n f p) [
  | inl still ↦ still
  | inr next ↦ (let z = next.1 in absurd (omega (arith, z, some)))
]
