-- Units, and the ticks that they hold.
use Rattle.std.proofs.Common.{add-mul, ap, arith, div-add-mod', div-lt_iff_lt-mul, inl, inr, le-div_iff_mul-le, le_of_lt, mod-lt, mul-add}
use Rattle.std.proofs.Common.{mul-le-mul_right, sub-add_cancel, suc, ℕ, ◌%◌, ◌*◌, ◌+◌, ◌-◌, ◌/◌, ◌<◌, ◌≡◌, ◌≤◌, ◌⊎◌}
use Rattle.std.proofs.lemmas.Bool.{cases_lt}
use native.Mathlib.Nat.{div-eq_of_lt-le}

-- a length times a rate
pub mul_span : (r b e : ℕ) → b ≤ e → r * (e - b) + r * b ≡ r * e
mul_span r b e h =
    let whole = ap (λ x. r * x) (sub-add_cancel h) in
    let parts = mul-add r (e - b) b in
    omega (arith, whole, parts)

-- a tick before unit u lies in a unit below u
pub unit_below : (t u l : ℕ) → 0 < l → t < u * l → t / l < u
unit_below t u l p h = (div-lt_iff_lt-mul p).1 h

-- a tick from unit u on lies in a unit from u on
pub unit_from : (t u l : ℕ) → 0 < l → u * l ≤ t → u ≤ t / l
unit_from t u l p h = (le-div_iff_mul-le p).1 h

-- a tick in a unit below u lies before unit u
pub tick_below : (t u l : ℕ) → 0 < l → t / l < u → t < u * l
tick_below t u l p h = (div-lt_iff_lt-mul p).0 h

-- a tick in a unit from u on lies at unit u or later
pub tick_from : (t u l : ℕ) → 0 < l → u ≤ t / l → u * l ≤ t
tick_from t u l p h = (le-div_iff_mul-le p).0 h

-- the unit of the next tick
pub next_unit : (n l : ℕ) → 0 < l → (suc n / l ≡ n / l) ⊎ ((suc n / l ≡ suc (n / l)) × (suc n % l ≡ 0))
next_unit n l p =
    let a = div-add-mod' n l in
    let b = div-add-mod' (suc n) l in
    let c = mod-lt n p in
    let d = mod-lt (suc n) p in
    elim (cases_lt (suc (n % l)) l) [
      | inl m ↦ inl (div-eq_of_lt-le l (omega (arith, a)) (omega (arith, a, m)))
      | inr m ↦
          (let q : suc n / l ≡ suc (n / l) = div-eq_of_lt-le l (omega (arith, a, c, m)) (omega (arith, a, c, m, p)) in
          let z : suc n % l ≡ 0 = (let e = ap (λ w. w * l) q in omega (arith, a, b, c, m, e)) in
          inr (q, z))
    ]

-- what differs from a multiple of c by a multiple of c is one
pub multiple : (s a b c : ℕ) → s + a * c ≡ b * c → (k : ℕ) × (s ≡ k * c)
multiple s a b c e =
    elim (cases_lt a b) [
      | inl l ↦
          (let whole = ap (λ x. x * c) (sub-add_cancel (le_of_lt l)) in
          let parts = add-mul (b - a) a c in
          (b - a, omega (arith, e, whole, parts)))
      | inr l ↦ (0, (let m = mul-le-mul_right c l in omega (arith, e, m)))
    ]
