-- Where ticks lie on the plot: whole units and the rest go apart, and nothing lies past its right edge.
use Rattle.std.proofs.Common.{ℕ, ◌+◌, ◌-◌, ◌*◌, ◌/◌, ◌%◌, ◌<◌, ◌≤◌, ◌≡◌, min, max, sym, ap, ◌∙◌, arith}
use Rattle.std.proofs.Math.Nat.{div-add-mod', mul-add-div_right, div-div-eq-div-mul, div-le_of_le-mul, mul-le-mul_right, mul_comm}

-- two roundings down in turn are one
pub apart : (d p s u : ℕ) → 0 < s → (d / s * p + d % s * p / s) / u ≡ d * p / (u * s)
apart d p s u some =
    let split : d / s * s + d % s ≡ d = div-add-mod' d s in
    let spread : d / s * p * s + d % s * p ≡ (d / s * s + d % s) * p = omega arith in
    let once : d / s * p + d % s * p / s ≡ d * p / s
    = sym (mul-add-div_right some (d / s * p) (d % s * p)) ∙ ap (λ n. n / s) (spread ∙ ap (λ n. n * p) split) in
    let turn : s * u ≡ u * s = mul_comm s u in
    ap (λ n. n / u) once ∙ (div-div-eq-div-mul (d * p) s u ∙ ap (λ n. d * p / n) turn)

-- what lies within the units has at most the width
pub along_within : (d p s u : ℕ) → d ≤ u * s → 0 < u → d * p / (u * s) ≤ p
along_within d p s u within some =
    let most : d * p ≤ u * s * p = mul-le-mul_right p within in
    div-le_of_le-mul (u * s) (omega (arith, most))

-- the distance of a tick in the window from its first one
pub distance_within : (tick from units s : ℕ) → min (max tick (from * s)) ((from + units) * s) - from * s ≤ units * s
distance_within tick from units s =
    let spread : (from + units) * s ≡ from * s + units * s = omega arith in
    omega (arith, spread)
