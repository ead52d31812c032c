-- The periods of a task follow one another, and those that end by the horizon fit.
use Rattle.std.proofs.Common.{ℕ, ◌+◌, ◌-◌, ◌*◌, ◌^◌, ◌<◌, ◌≤◌, arith}
use Rattle.std.proofs.Math.Nat.{mul-le-mul_right, le-div_iff_mul-le}
use Rattle.sched_base.specs.declared.sets.Task.{Task}
use Rattle.sched_base.specs.Sets.{SetContents}
use Rattle.sched_base.specs.Valid.{period_start}
use Rattle.trace_format.specs.Finishes.{ended_count}

pub starts_rise : (scale : ℕ) (t : Task) (k : ℕ) → period_start scale t k ≤ period_start scale t (k + 1)
starts_rise scale t k =
    let step : k * t.period ≤ (k + 1) * t.period = mul-le-mul_right t.period (omega arith) in
    mul-le-mul_right scale (omega (arith, step))

pub ended_within : (s : SetContents) (t : Task) (k : ℕ) → 0 < t.period → k < ended_count s t → t.offset + (k + 1) * t.period ≤ s.horizon
ended_within s t k some h =
    let v : (k + 1) * t.period ≤ s.horizon - t.offset = (le-div_iff_mul-le some).0 (omega (arith, h)) in
    let w : 1 * t.period ≤ (k + 1) * t.period = mul-le-mul_right t.period (omega arith) in
    omega (arith, v, w, some)

-- such a period begins by the horizon too
pub begun_within : (s : SetContents) (t : Task) (k : ℕ) → 0 < t.period → k < ended_count s t → t.offset + k * t.period ≤ s.horizon
begun_within s t k some h =
    let step : k * t.period ≤ (k + 1) * t.period = mul-le-mul_right t.period (omega arith) in
    let end = ended_within s t k some h in
    omega (arith, step, end)

-- in ticks it ends below 2^127
pub start_fits : (s : SetContents) (t : Task) (scale k : ℕ) → 0 < t.period → k < ended_count s t → s.horizon < 2 ^ 32 → scale ≤ 2 ^ 94
    → period_start scale t (k + 1) < 2 ^ 127
start_fits s t scale k some h u v =
    let w = ended_within s t k some h in
    let a : period_start scale t (k + 1) ≤ s.horizon * scale = mul-le-mul_right scale w in
    let b : s.horizon * scale ≤ (2 ^ 32 - 1) * scale = mul-le-mul_right scale (omega (arith, u)) in
    omega (arith, a, b, v)
