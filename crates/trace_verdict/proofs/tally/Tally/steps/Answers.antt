use Rattle.std.proofs.Common.{arith}
use Rattle.trace_verdict.specs.Findings.{IsRowIn}
use Rattle.trace_verdict.proofs.PartLemmas.{all_get}
use Rattle.trace_verdict.proofs.TallyLemmas.{goes_nowhere, goes_next, goes_all, goes_few}
use Rattle.trace_verdict.proofs.tally.Tally.steps.Goals as goal

pub loop-row-init : goal.loop-row-init
loop-row-init c = goes_nowhere c.args.periods.now c.args.self.now c.requires.pace

pub step-requires-clause-row : goal.step-requires-clause-row
step-requires-clause-row c = all_get (IsRowIn c.args.periods.now) c.args.rows.now c.loop-row.row-index _ c.requires.rows c.loop-row-test.true

pub step-requires-clause-few_preempted : goal.step-requires-clause-few_preempted
step-requires-clause-few_preempted c =
    let few = goes_few c.args.periods.now c.args.rows.now c.loop-row.row-index c.args.self.now c.loop-row.self c.loop-row-test.true c.loop-row.invariant in
    omega (arith, few.0, c.requires.few_preempted)

pub step-requires-clause-few_moved : goal.step-requires-clause-few_moved
step-requires-clause-few_moved c =
    let few = goes_few c.args.periods.now c.args.rows.now c.loop-row.row-index c.args.self.now c.loop-row.self c.loop-row-test.true c.loop-row.invariant in
    omega (arith, few.1, c.requires.few_moved)

pub loop-row-preserved : goal.loop-row-preserved
loop-row-preserved c =
    goes_next c.args.periods.now c.args.rows.now c.loop-row.row-index _ c.args.self.now c.loop-row.self c.step.new.self c.loop-row-test.true
    c.loop-row.invariant c.step.ensures.goes

pub returns : goal.returns
returns c = goes_all c.args.periods.now c.args.rows.now c.loop-row.row-index c.args.self.now c.loop-row.self c.loop-row-test.false c.loop-row.invariant
