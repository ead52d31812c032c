use Rattle.std.proofs.Common.{arith, rules, ◌≡◌, Some, ap, sym, ◌∙◌}
use Rattle.std.proofs.lemmas.List.{get_or_default}
use Rattle.exec_lanes.specs.declared.causes.Cause.{Cause}
use Rattle.exec_lanes.specs.Lanes.{LaneContents, lane_in, no_lane}
use Rattle.sched_base.specs.declared.rows.Row.{Row}
use Rattle.exec_lanes.specs.declared.causes.Cause.TheVariants as cause
use Rattle.exec_lanes.proofs.EndLemmas.{each_lane}
use Rattle.exec_lanes.proofs.ends.first_gate.Goals.{After-cause}
use Rattle.exec_lanes.proofs.ends.first_gate.Goals as goal

pub loop-p-init : goal.loop-p-init
loop-p-init g c = λ q r below failed. absurd (omega (arith, below))

pub returns-clause-none : goal.returns-clause-none
returns-clause-none g c = λ q r below failed. c.loop-p.invariant q r (omega (arith, below)) failed

pub overflow_cast-p-end : goal.overflow_cast-p-end
overflow_cast-p-end g c = let few = c.requires in omega (arith, few)

pub overflow_cast-p : goal.overflow_cast-p
overflow_cast-p g c = let few = c.requires in let below = c.loop-p-test.true in omega (arith, few, below)

pub offset_bounds-lanes-p : goal.offset_bounds-lanes-p
offset_bounds-lanes-p g c = c.loop-p.auto.p-end

pub bounds-lanes-p : goal.bounds-lanes-p
bounds-lanes-p g c = c.loop-p-test.true

module _ (g : _) (c : After-cause g) where
  cause_is : (lane_in c.args.lanes.now c.loop-p.p).cause ≡ c.cause.result.now
  cause_is = ap (λ (l : LaneContents). l.cause) (sym (c.index-lanes-p.is ∙ get_or_default c.args.lanes.now c.loop-p.p c.index-lanes-p.result no_lane
      c.loop-p-test.true)) ∙ sym c.cause.ensures

pub returns-in-Some-Gate-clause-some : goal.returns-in-Some-Gate-clause-some
returns-in-Some-Gate-clause-some g c =
    let at = cause_is g (goal.at.returns-in-Some-Gate-clause-some g c).After-cause in
    let is : c.in-Some-Gate.field-0 ≡ cause.Gate c.in-Some-Gate.row = rw c.in-Some-Gate.is at c.in-Some-Gate.field-0-is in
    ((c.loop-p-test.true, at ∙ c.in-Some-Gate.is ∙ ap (λ (o : Cause). Some o) is), c.loop-p.invariant)

pub loop-p-preserved : goal.loop-p-preserved
loop-p-preserved g c = λ q r below failed. each_lane (λ l. (r : Row) → l.cause ≡ Some (cause.Gate r) → ⊥) c.args.lanes.now c.loop-p.p c.index-lanes-p.result
    c.loop-p-test.true c.index-lanes-p.is
    (λ r is. search rules)
    (λ p below r is. c.loop-p.invariant p r below (let end = c.loop-p-test.true in omega (arith, below, end), is)) q below r failed.1
