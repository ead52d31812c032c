use Rattle.std.proofs.Common.{List, ◌<◌, ◌≤◌, length, arith, subst, sym, take}
use Rattle.std.proofs.lemmas.List.{take_all}
use Rattle.sched_base.specs.declared.rows.Row.{Row}
use Rattle.sched_base.specs.Tables.{all_rows, lane_of}
use Rattle.table_text.specs.Steps.{IsStep}
use Rattle.table_text.proofs.StepLemmas.{IsStep-none, IsStep-then}
use Rattle.table_text.proofs.GivenLemmas.{lanes_more}
use Rattle.table_text.proofs.steps.common_step.Goals as goal

pub loop-p-init : goal.loop-p-init
loop-p-init c = IsStep-none c.args.ticks

pub loop-p-preserved : goal.loop-p-preserved
loop-p-preserved c =
    let lanes = c.args.rows.now.lanes in
    let p = c.loop-p.p in
    let many = c.processors-p-end.ensures in
    let within : p < length lanes = omega (arith, many, c.loop-p-test.true) in
    subst (λ (rows : List Row). IsStep c.args.ticks rows c.lane_step-step.result) (sym (lanes_more lanes p within))
    (IsStep-then c.args.ticks c.loop-p.step c.lane_step-step.result (all_rows (take p lanes)) (lane_of lanes p) c.loop-p.invariant c.lane_step-step.ensures)

pub returns : goal.returns
returns c =
    let lanes = c.args.rows.now.lanes in
    let many = c.processors-p-end.ensures in
    let past : length lanes ≤ c.loop-p.p = omega (arith, many, c.loop-p-test.false) in
    subst (λ (ls : List (List Row)). IsStep c.args.ticks (all_rows ls) c.loop-p.step) (take_all c.loop-p.p lanes past) c.loop-p.invariant
