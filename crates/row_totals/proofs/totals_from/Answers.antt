use Rattle.std.proofs.Common.{List, [], ap, arith, get_or, sym, ℕ, ◌++◌, ◌∙◌, ◌∷◌}
use Rattle.std.proofs.lemmas.List.{take_all, take_more}
use Rattle.std.proofs.lemmas.Result.{IfOk-from_err}
use Rattle.row_totals.proofs.totals_from.Goals as goal

pub returns-in_err-totals : goal.returns-in_err-totals
returns-in_err-totals c = IfOk-from_err _ _ c.from_residual.ensures.0

pub push-requires : goal.push-requires
push-requires c =
    let on = c.loop-sum-test.true in
    let room = c.loop-sum.invariant.1 in
    omega (arith, on, room)

pub loop-sum-init : goal.loop-sum-init
loop-sum-init c = let room = c.in_ok-totals.ensures.room in (c.in_ok-totals.ensures.none, omega (arith, room))

pub loop-sum-preserved : goal.loop-sum-preserved
loop-sum-preserved c =
    let i = c.loop-sum.sum-index in
    let room = c.loop-sum.invariant.1 in
    let less = c.push.ensures.room in (
      c.push.ensures.ticks ∙ ap (λ (ticks : List ℕ). ticks ++ get_or c.args.sums.now i 0 ∷ []) c.loop-sum.invariant.0
          ∙ sym (take_more c.args.sums.now i 0 c.loop-sum-test.true),
      omega (arith, room, less),
    )

pub returns : goal.returns
returns c =
    let off = c.loop-sum-test.false in
    c.loop-sum.invariant.0 ∙ take_all c.loop-sum.sum-index c.args.sums.now (omega (arith, off))
