use Rattle.std.proofs.Common.{List, [], ◌∷◌, ◌<◌, ◌≤◌, length, arith, subst, sym, take}
use Rattle.std.proofs.lemmas.List.{take_all}
use Rattle.sched_base.specs.declared.rows.Row.{Row}
use Rattle.sched_base.specs.Tables.{lane_of}
use Rattle.table_text.specs.Steps.{IsStep}
use Rattle.table_text.proofs.StepLemmas.{IsStep-none, IsStep-row, IsStep-then}
use Rattle.table_text.proofs.GivenLemmas.{rows_more}
use Rattle.table_text.proofs.steps.lane_step.Goals as goal

pub loop-i-init : goal.loop-i-init
loop-i-init c = IsStep-none c.args.before

pub loop-i-preserved : goal.loop-i-preserved
loop-i-preserved c =
    let lane = lane_of c.args.rows.now.lanes c.args.p in
    let i = c.loop-i.i in
    let r = c.row-row.result in
    let many = c.count-i-end.ensures in
    let within : i < length lane = omega (arith, many, c.loop-i-test.true) in
    subst (λ (rows : List Row). IsStep c.args.before rows c.gcd-step.result) (sym (rows_more lane i r within c.row-row.ensures))
    (IsStep-then c.args.before c.loop-i.step c.gcd-step.result (take i lane) (r ∷ []) c.loop-i.invariant
    (IsStep-row c.loop-i.step c.gcd.result c.gcd-step.result r c.gcd.ensures c.gcd-step.ensures))

pub returns : goal.returns
returns c =
    let lane = lane_of c.args.rows.now.lanes c.args.p in
    let many = c.count-i-end.ensures in
    let past : length lane ≤ c.loop-i.i = omega (arith, many, c.loop-i-test.false) in
    subst (λ (rows : List Row). IsStep c.args.before rows c.loop-i.step) (take_all c.loop-i.i lane past) c.loop-i.invariant
