use Rattle.std.proofs.Common.{ℕ, ◌+◌, ◌-◌, ◌/◌, ◌≤◌, ◌≡◌, ◌∙◌, false, sym, arith}
use Rattle.std.proofs.Math.Nat.{div-mul-le_self}
use Rattle.trace_draw.specs.ShownUnits.{has_few}
use Rattle.trace_draw.proofs.ShownUnitLemmas.{none_from, greatest_below}
use Rattle.trace_draw.proofs.asking.most_shown.Goals as goal

pub halving-preserved : goal.halving-preserved
halving-preserved c =
    let t = c.args.trace.now in
    let a = c.args.asked.now in
    let low = c.halving.low in
    let high = c.halving.high in
    let middle : ℕ = high - (high - low) / 2 in
    let half = div-mul-le_self (high - low) 2 in
    let above : low + 1 ≤ middle = omega (arith, half, c.halving-test.true) in
    let some : 1 ≤ low = c.halving.invariant.0 in
    let most : high ≤ c.args.most = c.halving.invariant.2 in
    let fails : has_few t a middle ≡ false = sym c.has_few.ensures ∙ c.if-has_few.false in
    let below = greatest_below (has_few t a) high middle (omega (arith, above)) (omega arith) (none_from t a middle fails) in
    (some, omega (arith, above), omega (arith, most), c.halving.invariant.3, sym below ∙ c.halving.invariant.4)
