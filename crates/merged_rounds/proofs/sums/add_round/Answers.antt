use Rattle.std.proofs.Common.{arith}
use Rattle.sched_base.specs.Lanes.{lanes_of}
use Rattle.sched_laws.proofs.WholeRounds.{length-round}
use Rattle.event_core.specs.Rounds.{rows_before, rows_of_round}
use Rattle.merged_rounds.specs.declared.sums.RoundSum.{RoundSum}
use Rattle.merged_rounds.proofs.SumLemmas.{ends_on, lanes_whole, round_here, round_to, sum_on}
use Rattle.merged_rounds.proofs.sums.add_round.Goals as goal

pub add_round-requires : goal.add_round-requires
add_round-requires c =
    let p = c.args.plan.now in
    let told = c.requires.told.long in
    let rows = length-round p.set.tasks p.tree c.args.start c.args.end in
    let lanes = lanes_whole p c.in_ok-rounds.ensures.lawful c.args.start c.args.end c.requires.round c.args.sum.now c.requires.sum in
    record { whole = omega (arith, told, rows, lanes) }

pub returns-clause-sum : goal.returns-clause-sum
returns-clause-sum c =
    let p = c.args.plan.now in
    let h = c.in_ok-rounds.ensures.lawful in
    let start = c.args.start in
    let end = c.args.end in
    let round = c.requires.round in
    let sum = c.args.sum.now in
    let before = c.requires.sum in
    let next : RoundSum = record { rows = c.add_round.new.self; rounds = c.in_ok-rounds.rounds } in
    let lanes = c.in_ok-add_round.ensures.merged (lanes_of p.tree.processors (rows_before p start)) (rows_of_round p start end) before.lanes
    (round_here p h start end round sum before) (round_to p h start end round sum before) c.requires.told in
    sum_on p h start end round sum before next lanes c.in_ok-rounds.ensures.count c.in_ok-rounds.ensures.few c.in_ok-add_round.ensures.end

pub returns-clause-ends : goal.returns-clause-ends
returns-clause-ends c =
    let p = c.args.plan.now in
    let h = c.in_ok-rounds.ensures.lawful in
    let start = c.args.start in
    let end = c.args.end in
    let round = c.requires.round in
    let sum = c.args.sum.now in
    let before = c.requires.sum in
    let next : RoundSum = record { rows = c.add_round.new.self; rounds = c.in_ok-rounds.rounds } in
    let lanes = c.in_ok-add_round.ensures.merged (lanes_of p.tree.processors (rows_before p start)) (rows_of_round p start end) before.lanes
    (round_here p h start end round sum before) (round_to p h start end round sum before) c.requires.told in
    λ q r at. ends_on p h start end round sum before next lanes q r at
