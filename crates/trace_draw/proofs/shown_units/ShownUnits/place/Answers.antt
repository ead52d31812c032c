use Rattle.std.proofs.Math.Nat.{div-le_of_le-mul}
use mir.Syntax.{w128}
use Rattle.std.proofs.Common.{◌≡◌, ℕ, ◌+◌, ◌-◌, min, max, ap, arith, ◌*◌, ◌/◌, ◌%◌, ◌^◌, ◌<◌, ◌≤◌, Fits, mod-lt}
use Rattle.trace_draw.specs.ShownUnits.{first_tick, end_tick}
use Rattle.trace_draw.proofs.LengthLemmas.{apart, along_within, distance_within}
use Rattle.trace_draw.proofs.shown_units.ShownUnits.place.Goals as goal

begins_within : (tick from units s : ℕ) → from * s ≤ min (max tick (from * s)) ((from + units) * s)
begins_within tick from units s =
    let spread : (from + units) * s ≡ from * s + units * s = omega arith in
    omega (arith, spread)

whole_within : (d s u : ℕ) → d ≤ u * s → d / s ≤ u
whole_within d s u within = div-le_of_le-mul s (let same : u * s ≡ s * u = omega arith in omega (arith, within, same))

whole_fits : (d s u from : ℕ) → d ≤ u * s → 0 < s → from + u < 2 ^ 32 → Fits w128 (d / s * 9700)
whole_fits d s u from within some few = (let whole = whole_within d s u within in omega (arith, whole, few))

rest_fits : (d s : ℕ) → 0 < s → s ≤ 2 ^ 94 → Fits w128 (d % s * 9700)
rest_fits d s some small = (let less = mod-lt d some in omega (arith, less, small))

sum_fits : (d s u from : ℕ) → d ≤ u * s → 0 < s → from + u < 2 ^ 32 → Fits w128 (d / s * 9700 + d % s * 9700 / s)
sum_fits d s u from within some few =
    let whole = whole_within d s u within in
    let less = mod-lt d some in
    let rest : d % s * 9700 / s ≤ 9700 = div-le_of_le-mul s (let times : d % s * 9700 ≤ s * 9700 = omega (arith, less) in times) in
    omega (arith, whole, few, rest)

pub overflow_cast-result : goal.overflow_cast-result
overflow_cast-result c =
    let w = c.args.self.now in
    let d : ℕ = min (max c.args.tick (first_tick w)) (end_tick w) - first_tick w in
    let once = apart d 9700 w.scale w.units c.requires.some_scale in
    let most = along_within d 9700 w.scale w.units (distance_within c.args.tick w.from w.units w.scale) c.requires.some in
    rw (c.min.ensures, c.max.ensures, c.end_tick.ensures.value, c.first_tick-first.ensures.value, c.from-width.ensures, c.from.ensures)
    (omega (arith, once, most))

pub overflow_add-result : goal.overflow_add-result
overflow_add-result c =
    let w = c.args.self.now in
    let d : ℕ = min (max c.args.tick (first_tick w)) (end_tick w) - first_tick w in
    let once = apart d 9700 w.scale w.units c.requires.some_scale in
    let most = along_within d 9700 w.scale w.units (distance_within c.args.tick w.from w.units w.scale) c.requires.some in
    rw (c.min.ensures, c.max.ensures, c.end_tick.ensures.value, c.first_tick-first.ensures.value, c.from-width.ensures, c.from.ensures)
    (omega (arith, once, most))

pub returns-clause-value : goal.returns-clause-value
returns-clause-value c =
    let w = c.args.self.now in
    let d : ℕ = min (max c.args.tick (first_tick w)) (end_tick w) - first_tick w in
    rw (c.min.ensures, c.max.ensures, c.end_tick.ensures.value, c.first_tick-first.ensures.value, c.from-width.ensures, c.from.ensures)
    (ap (λ n. 1900 + n) (apart d 9700 w.scale w.units c.requires.some_scale))

pub returns-clause-within : goal.returns-clause-within
returns-clause-within c =
    let w = c.args.self.now in
    let d : ℕ = min (max c.args.tick (first_tick w)) (end_tick w) - first_tick w in
    let once = apart d 9700 w.scale w.units c.requires.some_scale in
    let most = along_within d 9700 w.scale w.units (distance_within c.args.tick w.from w.units w.scale) c.requires.some in
    rw (c.min.ensures, c.max.ensures, c.end_tick.ensures.value, c.first_tick-first.ensures.value, c.from-width.ensures, c.from.ensures)
    (omega (arith, once, most))

pub first_tick-first-requires : goal.first_tick-first-requires
first_tick-first-requires c = c.requires

pub end_tick-requires : goal.end_tick-requires
end_tick-requires c = c.requires

pub nonzero_div-whole : goal.nonzero_div-whole
nonzero_div-whole c = c.requires.some_scale

pub nonzero_rem-rest : goal.nonzero_rem-rest
nonzero_rem-rest c = c.requires.some_scale

pub nonzero_div-along : goal.nonzero_div-along
nonzero_div-along c = c.requires.some_scale

pub overflow_sub-distance : goal.overflow_sub-distance
overflow_sub-distance c = let w = c.args.self.now in rw (c.min.ensures, c.max.ensures, c.end_tick.ensures.value, c.first_tick-first.ensures.value)
    (begins_within c.args.tick w.from w.units w.scale)

pub overflow_mul-along : goal.overflow_mul-along
overflow_mul-along c = let w = c.args.self.now in rw (
  c.min.ensures,
  c.max.ensures,
  c.end_tick.ensures.value,
  c.first_tick-first.ensures.value,
  c.from-width.ensures,
) (whole_fits _ w.scale w.units w.from (distance_within c.args.tick w.from w.units w.scale) c.requires.some_scale c.requires.fits)

pub overflow_mul-along-2 : goal.overflow_mul-along-2
overflow_mul-along-2 c = let w = c.args.self.now in rw (
  c.min.ensures,
  c.max.ensures,
  c.end_tick.ensures.value,
  c.first_tick-first.ensures.value,
  c.from-width.ensures,
) (rest_fits _ w.scale c.requires.some_scale c.requires.scale_fits)

pub overflow_add-along : goal.overflow_add-along
overflow_add-along c = let w = c.args.self.now in rw (
  c.min.ensures,
  c.max.ensures,
  c.end_tick.ensures.value,
  c.first_tick-first.ensures.value,
  c.from-width.ensures,
) (sum_fits _ w.scale w.units w.from (distance_within c.args.tick w.from w.units w.scale) c.requires.some_scale c.requires.fits)
