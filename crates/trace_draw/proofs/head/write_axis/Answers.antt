use mir.Syntax.{w128}
use Rattle.std.proofs.Math.Nat.{div-add-mod', mul-le-mul_right, mul-le-mul_left}
use Rattle.std.proofs.Common.{◌≡◌, ◌<◌, arith, le_refl, le_trans, ℕ, ◌+◌, ◌*◌, ◌-◌, ◌/◌, ◌^◌, ◌≤◌, Fits, w64, subst, sym}
use Rattle.sched_edges.proofs.Wrote.{number_written, wrote_number}
use Rattle.trace_draw.specs.Head.{axis_step}
use Rattle.trace_draw.proofs.Parts.{mark_count, mark_of}
use Rattle.sched_edges.proofs.CauseLemmas.{cause_cut, took_none}
use Rattle.trace_draw.proofs.head.write_axis.Goals as goal

-- a mark of the axis lies within the units that are shown
mark_within : (n step first i : ℕ) → i < n / step + 1 - first → (first + i) * step ≤ n
mark_within n step first i below =
    let most : first + i ≤ n / step = omega (arith, below) in
    let times : (first + i) * step ≤ n / step * step = mul-le-mul_right step most in
    let whole = div-add-mod' n step in
    omega (arith, times, whole)

number_fits : (n step first i : ℕ) → 0 < step → n < 2 ^ 32 → i < n / step + 1 - first → Fits w64 (first + i)
number_fits n step first i some few below =
    let within = mark_within n step first i below in
    let least : (first + i) * 1 ≤ (first + i) * step = mul-le-mul_left (first + i) some in
    omega (arith, within, least, few)

unit_fits : (n step first i : ℕ) → n < 2 ^ 32 → i < n / step + 1 - first → Fits w64 ((first + i) * step)
unit_fits n step first i few below = (let within = mark_within n step first i below in omega (arith, within, few))

tick_fits : (n step first i scale unit : ℕ) → n < 2 ^ 32 → scale ≤ 2 ^ 94 → i < n / step + 1 - first → unit ≡ (first + i) * step → Fits w128 (unit * scale)
tick_fits n step first i scale unit few small below is =
    let within = mark_within n step first i below in
    let most : unit ≤ 2 ^ 32 = omega (arith, within, few, is) in
    let times : unit * scale ≤ 2 ^ 32 * scale = mul-le-mul_right scale most in
    omega (arith, times, small)

pub loop-i-init : goal.loop-i-init
loop-i-init g c = (took_none _, le_refl _)

pub returns-in_err-write_lines-clause-wrote : goal.returns-in_err-write_lines-clause-wrote
returns-in_err-write_lines-clause-wrote g c =
    let w = c.args.window.now in
    let step = axis_step w.units in
    let count = rw c.axis_step-step.ensures.value at c.mark_count-i-end.ensures in
    let below : c.loop-i.i < mark_count w step = omega (arith, c.loop-i-test.true, count) in
    let wrote = rw (
      c.mark_lines.ensures,
      c.place-at.ensures.value,
      c.from.ensures,
      c.bottom-end.ensures.value,
      c.first_mark-first.ensures,
      c.axis_step-step.ensures.value,
    ) at c.in_err-write_lines.ensures.wrote in
    wrote_number (mark_of c.args.set.now w step) (mark_count w step) c.loop-i.i _ _ _ _ _ below c.loop-i.invariant.0 wrote c.from_residual.ensures.0

pub loop-i-preserved : goal.loop-i-preserved
loop-i-preserved g c =
    let w = c.args.window.now in
    let step = axis_step w.units in
    let wrote = rw (
      c.mark_lines.ensures,
      c.place-at.ensures.value,
      c.from.ensures,
      c.bottom-end.ensures.value,
      c.first_mark-first.ensures,
      c.axis_step-step.ensures.value,
    ) at c.in_ok-write_lines.ensures.wrote in (
      number_written (mark_of c.args.set.now w step) c.loop-i.i _ _ _ c.loop-i.invariant.0 wrote.ok,
      le_trans c.loop-i.invariant.1
          c.write_lines.ensures.cause.later,
    )

pub returns-in_err-write_lines-clause-cause : goal.returns-in_err-write_lines-clause-cause
returns-in_err-write_lines-clause-cause g c = cause_cut _ _ _ _ _ c.loop-i.invariant.1 c.in_err-write_lines.ensures.cause

pub returns-clause-cause : goal.returns-clause-cause
returns-clause-cause g c = record { later = c.loop-i.invariant.1; failed = tt }

pub returns-clause-wrote : goal.returns-clause-wrote
returns-clause-wrote g c =
    let count = rw c.axis_step-step.ensures.value at c.mark_count-i-end.ensures in
    let all : c.loop-i.i ≡ mark_count c.args.window.now (axis_step c.args.window.now.units) = omega (arith, c.loop-i-test.false, c.loop-i.auto.i-end, count) in
    record { ok = rw all at c.loop-i.invariant.0; err = tt }

pub first_mark-first-requires-clause-window : goal.first_mark-first-requires-clause-window
first_mark-first-requires-clause-window g c = c.requires

pub first_mark-first-requires-clause-some : goal.first_mark-first-requires-clause-some
first_mark-first-requires-clause-some g c = c.axis_step-step.ensures.some

pub first_mark-first-requires-clause-fits : goal.first_mark-first-requires-clause-fits
first_mark-first-requires-clause-fits g c = c.axis_step-step.ensures.fits

pub mark_count-i-end-requires-clause-window : goal.mark_count-i-end-requires-clause-window
mark_count-i-end-requires-clause-window g c = c.requires

pub mark_count-i-end-requires-clause-some : goal.mark_count-i-end-requires-clause-some
mark_count-i-end-requires-clause-some g c = c.axis_step-step.ensures.some

pub mark_count-i-end-requires-clause-fits : goal.mark_count-i-end-requires-clause-fits
mark_count-i-end-requires-clause-fits g c = c.axis_step-step.ensures.fits

pub place-at-requires : goal.place-at-requires
place-at-requires g c = c.requires

pub overflow_add-unit : goal.overflow_add-unit
overflow_add-unit g c =
    let w = c.args.window.now in
    let step = c.axis_step-step.result in
    let first = c.first_mark-first.result in
    let below : c.loop-i.i < (w.from + w.units) / step + 1 - first
    = subst (λ f. c.loop-i.i < (w.from + w.units) / step + 1 - f) (sym c.first_mark-first.ensures) (subst (λ m. c.loop-i.i < m) c.mark_count-i-end.ensures
    c.loop-i-test.true) in
    number_fits (w.from + w.units) step first c.loop-i.i c.axis_step-step.ensures.some c.requires.fits below

pub overflow_mul-unit : goal.overflow_mul-unit
overflow_mul-unit g c =
    let w = c.args.window.now in
    let step = c.axis_step-step.result in
    let first = c.first_mark-first.result in
    let below : c.loop-i.i < (w.from + w.units) / step + 1 - first
    = subst (λ f. c.loop-i.i < (w.from + w.units) / step + 1 - f) (sym c.first_mark-first.ensures) (subst (λ m. c.loop-i.i < m) c.mark_count-i-end.ensures
    c.loop-i-test.true) in
    unit_fits (w.from + w.units) step first c.loop-i.i c.requires.fits below

pub overflow_mul-from : goal.overflow_mul-from
overflow_mul-from g c =
    let w = c.args.window.now in
    let step = c.axis_step-step.result in
    let first = c.first_mark-first.result in
    let below : c.loop-i.i < (w.from + w.units) / step + 1 - first
    = subst (λ f. c.loop-i.i < (w.from + w.units) / step + 1 - f) (sym c.first_mark-first.ensures) (subst (λ m. c.loop-i.i < m) c.mark_count-i-end.ensures
    c.loop-i-test.true) in
    tick_fits (w.from + w.units) step first c.loop-i.i w.scale _ c.requires.fits c.requires.scale_fits below c.from.ensures
