use Rattle.std.proofs.Common.{arith, rules, ◌≡◌, ℕ, Some, ap, sym, ◌∙◌}
use Rattle.std.proofs.lemmas.List.{get_or_default}
use Rattle.exec_lanes.specs.declared.causes.Cause.{Cause}
use Rattle.exec_lanes.specs.Lanes.{LaneContents, lane_in, no_lane}
use Rattle.sched_base.specs.declared.rows.Row.{Row}
use Rattle.sched_base.specs.declared.rows.Leaf.TheVariants.{Task}
use Rattle.exec_lanes.specs.declared.causes.Cause.TheVariants as cause
use Rattle.exec_lanes.proofs.EndLemmas.{each_lane}
use Rattle.exec_lanes.proofs.ends.first_job.Goals.{After-cause}
use Rattle.exec_lanes.proofs.ends.first_job.Goals as goal

pub loop-p-init : goal.loop-p-init
loop-p-init g c = λ q t r faults below failed. absurd (omega (arith, below))

pub returns-clause-none : goal.returns-clause-none
returns-clause-none g c = λ q t r faults below failed. c.loop-p.invariant q t r faults (omega (arith, below)) failed

pub overflow_cast-p-end : goal.overflow_cast-p-end
overflow_cast-p-end g c = let few = c.requires.few in omega (arith, few)

pub overflow_cast-p : goal.overflow_cast-p
overflow_cast-p g c = let few = c.requires.few in let below = c.loop-p-test.true in omega (arith, few, below)

pub offset_bounds-lanes-p : goal.offset_bounds-lanes-p
offset_bounds-lanes-p g c = c.loop-p.auto.p-end

pub bounds-lanes-p : goal.bounds-lanes-p
bounds-lanes-p g c = c.loop-p-test.true

module _ (g : _) (c : After-cause g) where
  cause_is : (lane_in c.args.lanes.now c.loop-p.p).cause ≡ c.cause.result.now
  cause_is = ap (λ (l : LaneContents). l.cause) (sym (c.index-lanes-p.is ∙ get_or_default c.args.lanes.now c.loop-p.p c.index-lanes-p.result no_lane
      c.loop-p-test.true)) ∙ sym c.cause.ensures

pub returns-in-Task-clause-some : goal.returns-in-Task-clause-some
returns-in-Task-clause-some g c =
    let at = cause_is g (goal.at.returns-in-Task-clause-some g c).After-cause in
    let is : c.in-Some-Job.field-0 ≡ cause.Job c.in-Some-Job.row c.in-Some-Job.field-0-1 = rw c.in-Some-Job.is at c.in-Some-Job.field-0-is in (
      c.requires.no_gate,
      (
        c.in-Some-Job.field-0-1,
        record { lane = c.loop-p-test.true; cause = at ∙ c.in-Some-Job.is ∙ ap (λ (o : Cause). Some o) is; of_task = c.in-Task.is },
      ),
      c.loop-p.invariant,
    )

pub loop-p-preserved : goal.loop-p-preserved
loop-p-preserved g c = λ q t r faults below failed. each_lane (λ l. (t : ℕ) (r : Row) (faults : ℕ) → l.cause ≡ Some (cause.Job r faults) →
    r.leaf ≡ Task (record { 0 = t }) → ⊥) c.args.lanes.now c.loop-p.p c.index-lanes-p.result c.loop-p-test.true c.index-lanes-p.is
    (λ t r faults is of_task. search rules)
    (λ p below t r faults is of_task. c.loop-p.invariant p t r faults below
    (record { lane = (let end = c.loop-p-test.true in omega (arith, below, end)); cause = is; of_task = of_task })) q below t r faults failed.cause
    failed.of_task
