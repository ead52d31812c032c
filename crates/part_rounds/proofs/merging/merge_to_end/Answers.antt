use Rattle.std.proofs.Common.{◌≡◌, ℕ, arith, subst}
use Rattle.run_tree.specs.Plans.{stop_of}
use Rattle.merged_rounds.specs.Laps.{IsSumUpTo}
use Rattle.part_rounds.proofs.merging.merge_to_end.Goals as goal

pub returns-clause-sum : goal.returns-clause-sum
returns-clause-sum c =
    let merging = c.rounds.invariant in
    let at : c.rounds.parted.tick ≡ stop_of c.args.plan.now =
    (let now = c.now.ensures in let stop = c.rounds_end-stop.ensures.value in let over = c.rounds-test.false in let within = merging.belongs.within in
    omega (arith, now, stop, over, within)) in
    subst (λ (n : ℕ). IsSumUpTo c.args.plan.now n c.rounds.sum) at merging.sum
