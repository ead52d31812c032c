use Rattle.std.proofs.Common.{◌≡◌, ℕ, ◌<◌, ◌+◌, min, arith, length, subst}
use Rattle.run_tree.specs.Plans.{stop_of}
use Rattle.merged_rounds.specs.Laps.{IsSumUpTo, round_start}
use Rattle.merged_rounds.proofs.LapLemmas.{next_lap}
use Rattle.std.proofs.lemmas.Result.{IfOk-from_err}
use Rattle.merged_rounds.proofs.laps.with_laps.Goals as goal

pub laps-init : goal.laps-init
laps-init c = record {
  again = λ l. c.requires.again.again;
  sum = (let within = c.requires.within in
      let e : c.args.again.from + c.args.again.ticks ≡ min (c.args.again.from + c.args.again.ticks) (stop_of c.args.plan.now) = omega (arith, within) in
      subst (λ (n : ℕ). IsSumUpTo c.args.plan.now n c.args.sum.now) e c.requires.sum);
  near = (let within = c.requires.within in omega (arith, within));
}

pub laps-preserved : goal.laps-preserved
laps-preserved c =
    let p = c.args.plan.now in
    let h = c.rounds_end-stop.ensures.lawful in
    let stop = c.rounds_end-stop.ensures.value in
    let on = c.laps-test.true in
    let early : c.args.again.from + c.laps.shift < stop_of p = omega (arith, stop, on) in
    let end = c.requires.end in
    let ends = c.args.lap.now.ends.items in
    let e : round_start c.args.again.from ends (length ends) + c.laps.shift ≡ c.args.again.from + (c.laps.shift + c.args.again.ticks) = omega (arith, end) in
    record {
      again = λ l. next_lap p h c.args.again.from c.args.again.ticks c.laps.shift c.requires.again.again (c.laps.invariant.again early) l;
      sum = subst (λ (n : ℕ). IsSumUpTo p (min n (stop_of p)) c.with_lap.new.sum) e c.in_ok-with_lap.ensures.sum;
      near = omega (arith, early);
    }

pub with_lap-requires-clause-again : goal.with_lap-requires-clause-again
with_lap-requires-clause-again c =
    record {
      again = c.laps.invariant.again (let stop = c.rounds_end-stop.ensures.value in let on = c.laps-test.true in omega (arith, stop, on));
      lap = c.requires.again.lap;
    }

pub with_lap-requires-clause-early : goal.with_lap-requires-clause-early
with_lap-requires-clause-early c = let stop = c.rounds_end-stop.ensures.value in let on = c.laps-test.true in omega (arith, stop, on)

pub with_lap-requires-clause-sum : goal.with_lap-requires-clause-sum
with_lap-requires-clause-sum c =
    let p = c.args.plan.now in
    let stop = c.rounds_end-stop.ensures.value in
    let on = c.laps-test.true in
    let e : min (c.args.again.from + c.laps.shift) (stop_of p) ≡ c.args.again.from + c.laps.shift = omega (arith, stop, on) in
    subst (λ (n : ℕ). IsSumUpTo p n c.laps.sum) e c.laps.invariant.sum

pub returns-in_err-with_lap-clause-sum : goal.returns-in_err-with_lap-clause-sum
returns-in_err-with_lap-clause-sum c = IfOk-from_err _ _ c.from_residual.ensures.0

pub returns-clause-sum : goal.returns-clause-sum
returns-clause-sum c =
    let p = c.args.plan.now in
    let stop = c.rounds_end-stop.ensures.value in
    let off = c.laps-test.false in
    let e : min (c.args.again.from + c.laps.shift) (stop_of p) ≡ stop_of p = omega (arith, stop, off) in
    subst (λ (n : ℕ). IsSumUpTo p n c.laps.sum) e c.laps.invariant.sum
