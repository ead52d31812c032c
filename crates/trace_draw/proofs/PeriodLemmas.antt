-- The periods that are shown begin by the end of the window.
use Rattle.std.proofs.Common.{ℕ, ◌+◌, ◌-◌, ◌*◌, ◌^◌, ◌<◌, ◌≤◌, ◌≡◌, inl, inr, min, ◌&&◌, cond, not, eqb, leb, ltb, sym, ap, ◌∙◌, arith, [], ◌∷◌, codes, Fits}
use Rattle.std.specs.Int.{w128}
use Rattle.std.proofs.lemmas.Nat.{mul-le}
use Rattle.sched_base.specs.Valid.{period_start}
use Rattle.std.proofs.Math.Nat.{le-div_iff_mul-le, le-mul_of_pos_right}
use Rattle.std.proofs.lemmas.Bool.{cases_Bool, cases_lt, ne_eqb, lt-ltb}
use Rattle.sched_base.specs.declared.sets.Task.{Task}
use Rattle.trace_draw.specs.declared.shown_units.ShownUnits.{ShownUnits}
use Rattle.trace_draw.specs.ShownUnits.{first_tick, end_tick, place, plot_width}
use Rattle.trace_draw.specs.Shapes.{box_line, shape_line}
use Rattle.trace_draw.specs.Periods.{begun_before, first_shown, count_shown, is_wrong, period_lines}
use Rattle.std.specs.Prelude.{Bool, nat_le}

-- whether a period is as wide as an arrow needs
abbrev is_wide : ShownUnits → Task → Bool
is_wide w t = nat_le (150 * w.units) (t.period * plot_width)

begun_by : (t : Task) (unit k : ℕ) → 1 ≤ t.period → k < begun_before t unit → t.offset + k * t.period < unit
begun_by t unit k some h =
    let fits : (k + 1) * t.period ≤ unit - t.offset + t.period - 1 = (le-div_iff_mul-le some).0 (omega (arith, h)) in
    let spread : (k + 1) * t.period ≡ k * t.period + t.period = omega arith in
    omega (arith, fits, spread, some)

pub shown_begun : (w : ShownUnits) (t : Task) (i : ℕ) → 1 ≤ t.period → i < count_shown w t → t.offset + (first_shown w t + i) * t.period < w.from + w.units + 1
shown_begun w t i some h =
    elim (cases_Bool (is_wide w t)) [
      | inl wide ↦ (
          let count : count_shown w t ≡ begun_before t (w.from + w.units + 1) - first_shown w t
          = ap (λ b. cond b (begun_before t (w.from + w.units + 1) - first_shown w t) 0) wide in
          begun_by t (w.from + w.units + 1) (first_shown w t + i) some (omega (arith, h, count)))
      | inr narrow ↦ (
          let count : count_shown w t ≡ 0 = ap (λ b. cond b (begun_before t (w.from + w.units + 1) - first_shown w t) 0) narrow in
          absurd (omega (arith, h, count)))
    ]

-- the number of a period is no greater than the unit at which it begins
pub number_within : (t : Task) (k : ℕ) → 1 ≤ t.period → k ≤ t.offset + k * t.period
number_within t k some = (let more = le-mul_of_pos_right k some in omega (arith, more))

-- a period that begins by the greatest unit, and its end
pub start_fits : (t : Task) (k : ℕ) → t.offset + k * t.period < 2 ^ 32 → t.offset + k * t.period < 2 ^ 33
start_fits t k fits = omega arith

pub end_fits : (t : Task) (k : ℕ) → t.period < 2 ^ 32 → t.offset + k * t.period < 2 ^ 32 → t.offset + (k + 1) * t.period < 2 ^ 33
end_fits t k small fits = omega arith

-- ticks past the greatest number of 128 bits tell the same of a due below it
wrong_capped : (horizon end due given : ℕ) → due < 2 ^ 128 - 1 → is_wrong horizon end due (min given (2 ^ 128 - 1)) ≡ is_wrong horizon end due given
wrong_capped horizon end due given small =
    let most : ℕ = 2 ^ 128 - 1 in
    elim (cases_lt most given) [
      | inr fits ↦ (let same : min given most ≡ given = omega (arith, fits) in ap (is_wrong horizon end due) same)
      | inl past ↦ (
          let other = ne_eqb (min given most) due (λ e. omega (arith, e, past, small)) ∙ sym (ne_eqb given due (λ e. omega (arith, e, past, small))) in
          let more = lt-ltb due (min given most) (omega (arith, past, small)) ∙ sym (lt-ltb due given (omega (arith, past, small))) in
          ap (λ b. cond (leb end horizon) (not b) (ltb due (min given most))) other ∙ ap (λ b. cond (leb end horizon) (not (eqb given due)) b) more)
    ]

pub lines_capped : (w : ShownUnits) (horizon y a b due given done : ℕ) → due < 2 ^ 128 - 1
    → period_lines w horizon y a b due (min given (2 ^ 128 - 1)) done ≡ period_lines w horizon y a b due given done
lines_capped w horizon y a b due given done small =
    ap (λ t. cond (leb (first_tick w) a) (shape_line (codes "<path class='r' d='M") (place w a) (codes " ") y (codes "v-290m-45 70l45-70l45 70'/>")) []
    ∷ cond t (box_line (codes " class='w'") (place w a) (y - 20) (place w b - place w a) 40)
    (cond (leb b horizon && (ltb (first_tick w) done && leb done (end_tick w))) (shape_line (codes "<circle class='o' cx='") (place w done) (codes "' cy='")
    y (codes "' r='40'/>")) []) ∷ [])
    (wrong_capped horizon b due given small)

-- ---- ticks of a lawful task and of the schedule

pub small_work : (work period : ℕ) → work ≤ period → period < 2 ^ 32 → work ≤ 2 ^ 32 - 1
small_work work period a b = omega arith

pub small_units : (units : ℕ) → units < 2 ^ 32 → units ≤ 2 ^ 32 - 1
small_units units h = omega arith

pub ticks_fit : (units scale : ℕ) → units ≤ 2 ^ 32 - 1 → scale ≤ 2 ^ 94 → Fits w128 (units * scale)
ticks_fit units scale a b = (let most = mul-le units scale (2 ^ 32 - 1) (2 ^ 94) a b in omega (arith, most))

pub ticks_small : (units scale : ℕ) → units ≤ 2 ^ 32 - 1 → scale ≤ 2 ^ 94 → units * scale < 2 ^ 128 - 1
ticks_small units scale a b = (let most = mul-le units scale (2 ^ 32 - 1) (2 ^ 94) a b in omega (arith, most))

pub ticks_are : (n units m scale : ℕ) → n ≡ units → m ≡ scale → n * m ≡ units * scale
ticks_are n units m scale a b = ap (λ x. x * m) a ∙ ap (λ x. units * x) b

pub start_is : (n scale : ℕ) (t u : Task) (k : ℕ) → n ≡ scale → t ≡ u → period_start n t k ≡ period_start scale u k
start_is n scale t u k a b = ap (λ x. period_start x t k) a ∙ ap (λ x. period_start scale x k) b

-- the lines of equal places and ticks, with the ticks that were given capped
pub lines_are : (w : ShownUnits) (horizon stop y top a begin b end due owed given g done d : ℕ) → horizon ≡ stop → y ≡ top → a ≡ begin → b ≡ end →
    due ≡ owed → given ≡ min g (2 ^ 128 - 1) → done ≡ d
    → owed < 2 ^ 128 - 1 → period_lines w horizon y a b due given done ≡ period_lines w stop top begin end owed g d
lines_are w horizon stop y top a begin b end due owed given g done d eh ey ea eb ed eg ef small =
    ap (λ x. period_lines w x y a b due given done) eh
    ∙ ap (λ x. period_lines w stop x a b due given done) ey
    ∙ ap (λ x. period_lines w stop top x b due given done) ea
    ∙ ap (λ x. period_lines w stop top begin x due given done) eb
    ∙ ap (λ x. period_lines w stop top begin end x given done) ed
    ∙ ap (λ x. period_lines w stop top begin end owed x done) eg
    ∙ ap (λ x. period_lines w stop top begin end owed (min g (2 ^ 128 - 1)) x) ef
    ∙ lines_capped w stop top begin end owed g d small

-- ---- the periods that are shown

pub some_period : (work period : ℕ) → 1 ≤ work → work ≤ period → 1 ≤ period
some_period work period a b = omega arith

pub below_count : (i end count : ℕ) → i < end → end ≡ count → i < count
below_count i end count a b = omega arith

pub begun_early : (at end : ℕ) → at < end + 1 → end < 2 ^ 32 → at < 2 ^ 32
begun_early at end a b = omega arith

pub number_small : (k at end : ℕ) → k ≤ at → at < end + 1 → end < 2 ^ 32 → k ≤ 2 ^ 32
number_small k at end a b c = omega arith

pub all_shown : (i end count : ℕ) → i ≤ end → end ≤ i → end ≡ count → i ≡ count
all_shown i end count a b c = omega arith
