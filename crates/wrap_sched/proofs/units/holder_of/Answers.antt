use Rattle.std.proofs.Common.{Bool, ap, arith, drop, false, get_or, suc, true, ℕ, ◌+◌, ◌-◌}
use Rattle.std.proofs.lemmas.Bool.{le-ltb, lt-ltb}
use Rattle.std.proofs.lemmas.List.{at_drop_more}
use Rattle.wrap_sched.specs.Wrapped.{holder}
use Rattle.wrap_sched.proofs.units.holder_of.Goals as goal

-- the next share holds the place, or one behind it does
abbrev next_or_behind : ℕ → Bool → ℕ
next_or_behind behind b = elim b [ true ↦ 0 | false ↦ suc behind ]

pub returns-then-left-rate : goal.returns-then-left-rate
returns-then-left-rate c =
    let n = get_or c.args.rates.now c.loop-i.i 0 in
    let here = at_drop_more (λ ns. holder ns c.loop-i.left) c.args.rates.now c.loop-i.i 0 c.loop-i-test.true in
    let now = ap (next_or_behind (holder (drop (c.loop-i.i + 1) c.args.rates.now) (c.loop-i.left - n))) (lt-ltb c.loop-i.left n c.if-left-rate.true) in
    let all = c.loop-i.invariant in
    omega (arith, here, now, all)

pub loop-i-preserved : goal.loop-i-preserved
loop-i-preserved c =
    let n = get_or c.args.rates.now c.loop-i.i 0 in
    let here = at_drop_more (λ ns. holder ns c.loop-i.left) c.args.rates.now c.loop-i.i 0 c.loop-i-test.true in
    let later = ap (next_or_behind (holder (drop (c.loop-i.i + 1) c.args.rates.now) (c.loop-i.left - n))) (le-ltb c.loop-i.left n c.if-left-rate.false) in
    let all = c.loop-i.invariant in
    omega (arith, here, later, all)
