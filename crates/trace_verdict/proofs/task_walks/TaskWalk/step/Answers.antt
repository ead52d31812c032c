use Rattle.std.proofs.Common.{◌≡◌, ◌∙◌, ◌<◌, ◌≤◌, sym, ap, subst, arith}
use Rattle.trace_verdict.specs.declared.task_walks.TaskWalk.{TaskWalk}
use Rattle.trace_verdict.specs.Timed.{HasGone}
use Rattle.trace_verdict.proofs.NearLemmas.{in_time}
use Rattle.trace_verdict.proofs.StepLemmas.{step_stands, step_paced, step_small, step_fits, step_preempted, step_moved}
use Rattle.trace_verdict.proofs.task_walks.TaskWalk.step.Goals as goal
use Rattle.trace_verdict.proofs.task_walks.TaskWalk.step.Goals.{else-self-gt0-2-via-then-self-gt0-2+else-step_over, else-self-gt0-2-via-else-self-gt0-2}

pub near-requires-clause-lawful : goal.near-requires-clause-lawful
near-requires-clause-lawful c = c.requires.gone.ready.lawful

pub near-requires-clause-stands : goal.near-requires-clause-stands
near-requires-clause-stands c = step_stands c.args._rows.now c.args.task c.args.self.now c.requires.gone c.if-self.false

pub near-requires-clause-paced : goal.near-requires-clause-paced
near-requires-clause-paced c = step_paced c.args._rows.now c.args.task c.args.self.now c.requires.gone c.if-self-gt0.true

pub near-requires-clause-apart : goal.near-requires-clause-apart
near-requires-clause-apart c = c.if-row-self.false

pub near-requires-clause-long : goal.near-requires-clause-long
near-requires-clause-long c = c.if-row.false

pub near-requires-clause-ends : goal.near-requires-clause-ends
near-requires-clause-ends c = c.if-row-self-2.false

pub step_near-requires-clause-gone : goal.step_near-requires-clause-gone
step_near-requires-clause-gone c = c.requires.gone

pub step_near-requires-clause-some : goal.step_near-requires-clause-some
step_near-requires-clause-some c = c.if-self-gt0.true

pub step_near-requires-clause-room : goal.step_near-requires-clause-room
step_near-requires-clause-room c = c.if-self.false

pub step_near-requires-clause-within : goal.step_near-requires-clause-within
step_near-requires-clause-within c = c.requires.within

pub step_near-requires-clause-row : goal.step_near-requires-clause-row
step_near-requires-clause-row c = c.requires.row

pub step_near-requires-clause-apart : goal.step_near-requires-clause-apart
step_near-requires-clause-apart c = c.if-row-self.false

pub step_near-requires-clause-long : goal.step_near-requires-clause-long
step_near-requires-clause-long c = c.if-row.false

pub step_near-requires-clause-ends : goal.step_near-requires-clause-ends
step_near-requires-clause-ends c = c.if-row-self-2.false

pub step_near-requires-clause-small : goal.step_near-requires-clause-small
step_near-requires-clause-small c = step_small c.args._rows.now c.args.task c.args.self.now _ c.requires.gone c.if-self.false c.if-row-self.false

pub step_near-requires-clause-fits : goal.step_near-requires-clause-fits
step_near-requires-clause-fits c = step_fits c.args._rows.now c.args.task c.args.self.now _ c.requires.gone c.if-row-self-2.false

pub step_near-requires-clause-few_preempted : goal.step_near-requires-clause-few_preempted
step_near-requires-clause-few_preempted c = step_preempted c.args._rows.now c.args.task c.args.self.now c.requires.gone c.if-self-gt0.true (omega arith)

pub step_near-requires-clause-few_moved : goal.step_near-requires-clause-few_moved
step_near-requires-clause-few_moved c = step_moved c.args._rows.now c.args.task c.args.self.now c.requires.gone c.if-self-gt0.true (omega arith)

pub step_near-requires-clause-near : goal.step_near-requires-clause-near
step_near-requires-clause-near c = c.in-Some.ensures

pub returns-in-Some-clause-periods : goal.returns-in-Some-clause-periods
returns-in-Some-clause-periods c = c.step_near.ensures.periods

pub returns-in-Some-clause-gone : goal.returns-in-Some-clause-gone
returns-in-Some-clause-gone c = λ _. c.step_near.ensures.gone

pub near-requires-else-row-self-3-clause-lawful : goal.near-requires-else-row-self-3-clause-lawful
near-requires-else-row-self-3-clause-lawful c = c.requires.gone.ready.lawful

pub near-requires-else-row-self-3-clause-stands : goal.near-requires-else-row-self-3-clause-stands
near-requires-else-row-self-3-clause-stands c = step_stands c.args._rows.now c.args.task c.args.self.now c.requires.gone c.if-self.false

pub near-requires-else-row-self-3-clause-paced : goal.near-requires-else-row-self-3-clause-paced
near-requires-else-row-self-3-clause-paced c = step_paced c.args._rows.now c.args.task c.args.self.now c.requires.gone c.if-self-gt0.true

pub near-requires-else-row-self-3-clause-apart : goal.near-requires-else-row-self-3-clause-apart
near-requires-else-row-self-3-clause-apart c = c.if-row-self.false

pub near-requires-else-row-self-3-clause-long : goal.near-requires-else-row-self-3-clause-long
near-requires-else-row-self-3-clause-long c = c.if-row.false

pub near-requires-else-row-self-3-clause-ends : goal.near-requires-else-row-self-3-clause-ends
near-requires-else-row-self-3-clause-ends c = c.if-row-self-2.false

pub step_near-requires-in-Some-near-clause-gone : goal.step_near-requires-in-Some-near-clause-gone
step_near-requires-in-Some-near-clause-gone c = c.requires.gone

pub step_near-requires-in-Some-near-clause-some : goal.step_near-requires-in-Some-near-clause-some
step_near-requires-in-Some-near-clause-some c = c.if-self-gt0.true

pub step_near-requires-in-Some-near-clause-room : goal.step_near-requires-in-Some-near-clause-room
step_near-requires-in-Some-near-clause-room c = c.if-self.false

pub step_near-requires-in-Some-near-clause-within : goal.step_near-requires-in-Some-near-clause-within
step_near-requires-in-Some-near-clause-within c = c.requires.within

pub step_near-requires-in-Some-near-clause-row : goal.step_near-requires-in-Some-near-clause-row
step_near-requires-in-Some-near-clause-row c = c.requires.row

pub step_near-requires-in-Some-near-clause-apart : goal.step_near-requires-in-Some-near-clause-apart
step_near-requires-in-Some-near-clause-apart c = c.if-row-self.false

pub step_near-requires-in-Some-near-clause-long : goal.step_near-requires-in-Some-near-clause-long
step_near-requires-in-Some-near-clause-long c = c.if-row.false

pub step_near-requires-in-Some-near-clause-ends : goal.step_near-requires-in-Some-near-clause-ends
step_near-requires-in-Some-near-clause-ends c = c.if-row-self-2.false

pub step_near-requires-in-Some-near-clause-small : goal.step_near-requires-in-Some-near-clause-small
step_near-requires-in-Some-near-clause-small c = step_small c.args._rows.now c.args.task c.args.self.now _ c.requires.gone c.if-self.false c.if-row-self.false

pub step_near-requires-in-Some-near-clause-fits : goal.step_near-requires-in-Some-near-clause-fits
step_near-requires-in-Some-near-clause-fits c = step_fits c.args._rows.now c.args.task c.args.self.now _ c.requires.gone c.if-row-self-2.false

pub step_near-requires-in-Some-near-clause-few_preempted : goal.step_near-requires-in-Some-near-clause-few_preempted
step_near-requires-in-Some-near-clause-few_preempted c = step_preempted c.args._rows.now c.args.task c.args.self.now c.requires.gone c.if-self-gt0.true
    (omega arith)

pub step_near-requires-in-Some-near-clause-few_moved : goal.step_near-requires-in-Some-near-clause-few_moved
step_near-requires-in-Some-near-clause-few_moved c = step_moved c.args._rows.now c.args.task c.args.self.now c.requires.gone c.if-self-gt0.true (omega arith)

pub step_near-requires-in-Some-near-clause-near : goal.step_near-requires-in-Some-near-clause-near
step_near-requires-in-Some-near-clause-near c = c.in-Some-near.ensures

pub returns-in-Some-near-clause-periods : goal.returns-in-Some-near-clause-periods
returns-in-Some-near-clause-periods c = c.step_near-in-Some-near.ensures.periods

pub returns-in-Some-near-clause-gone : goal.returns-in-Some-near-clause-gone
returns-in-Some-near-clause-gone c = λ _. c.step_near-in-Some-near.ensures.gone

pub step_over-requires-clause-gone : goal.step_over-requires-clause-gone
step_over-requires-clause-gone c = c.requires.gone

pub step_over-requires-clause-some : goal.step_over-requires-clause-some
step_over-requires-clause-some c = c.if-self-gt0-2.true

pub step_over-requires-clause-room : goal.step_over-requires-clause-room
step_over-requires-clause-room c = c.if-self.false

pub step_over-requires-clause-within : goal.step_over-requires-clause-within
step_over-requires-clause-within c = c.requires.within

pub step_over-requires-clause-row : goal.step_over-requires-clause-row
step_over-requires-clause-row c = c.requires.row

pub step_over-requires-clause-apart : goal.step_over-requires-clause-apart
step_over-requires-clause-apart c = c.if-row-self.false

pub step_over-requires-clause-long : goal.step_over-requires-clause-long
step_over-requires-clause-long c = c.if-row.false

pub step_over-requires-clause-ends : goal.step_over-requires-clause-ends
step_over-requires-clause-ends c = c.if-row-self-2.false

pub step_over-requires-clause-lawful : goal.step_over-requires-clause-lawful
step_over-requires-clause-lawful c = c.requires.gone.ready.lawful

pub step_over-requires-clause-stands : goal.step_over-requires-clause-stands
step_over-requires-clause-stands c = step_stands c.args._rows.now c.args.task c.args.self.now c.requires.gone c.if-self.false

pub step_over-requires-clause-paced : goal.step_over-requires-clause-paced
step_over-requires-clause-paced c = step_paced c.args._rows.now c.args.task c.args.self.now c.requires.gone c.if-self-gt0-2.true

pub step_over-requires-clause-few_preempted : goal.step_over-requires-clause-few_preempted
step_over-requires-clause-few_preempted c = step_preempted c.args._rows.now c.args.task c.args.self.now c.requires.gone c.if-self-gt0-2.true (omega arith)

pub step_over-requires-clause-few_moved : goal.step_over-requires-clause-few_moved
step_over-requires-clause-few_moved c = step_moved c.args._rows.now c.args.task c.args.self.now c.requires.gone c.if-self-gt0-2.true (omega arith)

pub returns-then-step_over-clause-periods : goal.returns-then-step_over-clause-periods
returns-then-step_over-clause-periods c = c.step_over.ensures.periods

pub returns-then-step_over-clause-gone : goal.returns-then-step_over-clause-gone
returns-then-step_over-clause-gone c = λ _. c.step_over.ensures.gone

pub step_far-requires-clause-gone : goal.step_far-requires-clause-gone
step_far-requires-clause-gone c =
    let same : c.else-self-gt0-2.self ≡ c.args.self.now = (elim c.else-self-gt0-2.branch [
      | else-self-gt0-2-via-then-self-gt0-2+else-step_over w ↦ w.self-is ∙ w.step_over.ensures.same w.if-step_over.false
      | else-self-gt0-2-via-else-self-gt0-2 w ↦ w.self-is
    ]) in
    subst (HasGone c.args._rows.now c.args.task) (sym same) c.requires.gone

pub step_far-requires-clause-begun : goal.step_far-requires-clause-begun
step_far-requires-clause-begun c =
    let same : c.else-self-gt0-2.self ≡ c.args.self.now = (elim c.else-self-gt0-2.branch [
      | else-self-gt0-2-via-then-self-gt0-2+else-step_over w ↦ w.self-is ∙ w.step_over.ensures.same w.if-step_over.false
      | else-self-gt0-2-via-else-self-gt0-2 w ↦ w.self-is
    ]) in
    subst (λ (t : TaskWalk). t.periods.base ≤ t.periods.stop) (sym same) (in_time c.args._rows.now c.args.task c.args.self.now c.requires.gone c.if-self.false)

pub step_far-requires-clause-room : goal.step_far-requires-clause-room
step_far-requires-clause-room c =
    let same : c.else-self-gt0-2.self ≡ c.args.self.now = (elim c.else-self-gt0-2.branch [
      | else-self-gt0-2-via-then-self-gt0-2+else-step_over w ↦ w.self-is ∙ w.step_over.ensures.same w.if-step_over.false
      | else-self-gt0-2-via-else-self-gt0-2 w ↦ w.self-is
    ]) in
    subst (λ (t : TaskWalk). t.count < t.limit) (sym same) c.if-self.false

pub step_far-requires-clause-within : goal.step_far-requires-clause-within
step_far-requires-clause-within c = c.requires.within

pub step_far-requires-clause-row : goal.step_far-requires-clause-row
step_far-requires-clause-row c = c.requires.row

pub returns-clause-periods : goal.returns-clause-periods
returns-clause-periods c =
    let same : c.else-self-gt0-2.self ≡ c.args.self.now = (elim c.else-self-gt0-2.branch [
      | else-self-gt0-2-via-then-self-gt0-2+else-step_over w ↦ w.self-is ∙ w.step_over.ensures.same w.if-step_over.false
      | else-self-gt0-2-via-else-self-gt0-2 w ↦ w.self-is
    ]) in
    c.step_far.ensures.periods ∙ ap (λ (t : TaskWalk). t.periods) same

pub returns-clause-gone : goal.returns-clause-gone
returns-clause-gone c = c.step_far.ensures.gone
