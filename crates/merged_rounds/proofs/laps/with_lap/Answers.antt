use Rattle.std.proofs.Common.{◌≡◌, ℕ, ◌+◌, arith, length, min, subst}
use Rattle.run_tree.specs.Plans.{stop_of}
use Rattle.merged_rounds.specs.Laps.{IsSumUpTo, round_start}
use Rattle.std.proofs.lemmas.Result.{IfOk-from_err}
use Rattle.merged_rounds.proofs.laps.with_lap.Goals as goal

pub returns-clause-sum : goal.returns-clause-sum
returns-clause-sum c =
    let ends = c.args.lap.now.ends.items in
    let off = c.loop-i-test.false in
    let within = c.loop-i.auto.i-end in
    let e : c.loop-i.i ≡ length ends = omega (arith, off, within) in
    subst (λ (n : ℕ). IsSumUpTo c.args.plan.now (min (round_start c.args.again.from ends n + c.args.again.ticks) (stop_of c.args.plan.now)) c.loop-i.sum) e
    c.loop-i.invariant

pub add_lap_round-requires-clause-again : goal.add_lap_round-requires-clause-again
add_lap_round-requires-clause-again c = c.requires.again

pub add_lap_round-requires-clause-sum : goal.add_lap_round-requires-clause-sum
add_lap_round-requires-clause-sum c = c.loop-i.invariant

pub returns-in_err-add_lap_round-clause-sum : goal.returns-in_err-add_lap_round-clause-sum
returns-in_err-add_lap_round-clause-sum c = IfOk-from_err _ _ c.from_residual.ensures.0

pub loop-i-preserved : goal.loop-i-preserved
loop-i-preserved c = c.in_ok-add_lap_round.ensures.sum
