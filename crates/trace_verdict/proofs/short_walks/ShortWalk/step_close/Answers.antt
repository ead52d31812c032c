use Rattle.std.proofs.Common.{◌≡◌, true, false, refl, arith}
use Rattle.trace_verdict.specs.ShortWalks.{wide_of}
use Rattle.trace_verdict.proofs.StepLemmas.{some_gone, step_stands, step_paced, step_begun, step_small, step_preempted, step_moved}
use Rattle.trace_verdict.proofs.short_walks.ShortWalk.step_close.Goals as goal

pub returns-then-self-eq0-clause-periods : goal.returns-then-self-eq0-clause-periods
returns-then-self-eq0-clause-periods c = refl

pub returns-then-self-eq0-clause-gone : goal.returns-then-self-eq0-clause-gone
returns-then-self-eq0-clause-gone c = λ is. (let e : false ≡ true = is in cc)

pub returns-then-self-eq0-clause-same : goal.returns-then-self-eq0-clause-same
returns-then-self-eq0-clause-same c = λ _. refl

pub returns-in_default-clause-periods : goal.returns-in_default-clause-periods
returns-in_default-clause-periods c = refl

pub returns-in_default-clause-gone : goal.returns-in_default-clause-gone
returns-in_default-clause-gone c = λ is. (let e : false ≡ true = is in cc)

pub returns-in_default-clause-same : goal.returns-in_default-clause-same
returns-in_default-clause-same c = λ _. refl

pub returns-then-end-row-clause-periods : goal.returns-then-end-row-clause-periods
returns-then-end-row-clause-periods c = refl

pub returns-then-end-row-clause-gone : goal.returns-then-end-row-clause-gone
returns-then-end-row-clause-gone c = λ is. (let e : false ≡ true = is in cc)

pub returns-then-end-row-clause-same : goal.returns-then-end-row-clause-same
returns-then-end-row-clause-same c = λ _. refl

pub returns-in_default-period_of-clause-periods : goal.returns-in_default-period_of-clause-periods
returns-in_default-period_of-clause-periods c = refl

pub returns-in_default-period_of-clause-gone : goal.returns-in_default-period_of-clause-gone
returns-in_default-period_of-clause-gone c = λ is. (let e : false ≡ true = is in cc)

pub returns-in_default-period_of-clause-same : goal.returns-in_default-period_of-clause-same
returns-in_default-period_of-clause-same c = λ _. refl

pub returns-then-not-crosses-clause-periods : goal.returns-then-not-crosses-clause-periods
returns-then-not-crosses-clause-periods c = refl

pub returns-then-not-crosses-clause-gone : goal.returns-then-not-crosses-clause-gone
returns-then-not-crosses-clause-gone c = λ is. (let e : false ≡ true = is in cc)

pub returns-then-not-crosses-clause-same : goal.returns-then-not-crosses-clause-same
returns-then-not-crosses-clause-same c = λ _. refl

pub period_of-requires-clause-lawful : goal.period_of-requires-clause-lawful
period_of-requires-clause-lawful c = c.requires.gone.ready.lawful

pub period_of-requires-clause-stands : goal.period_of-requires-clause-stands
period_of-requires-clause-stands c = step_stands c.args._rows.now c.args.task (wide_of c.args.self.now) c.requires.gone c.if-self.false

pub period_of-requires-clause-paced : goal.period_of-requires-clause-paced
period_of-requires-clause-paced c = step_paced c.args._rows.now c.args.task (wide_of c.args.self.now) c.requires.gone (some_gone _ c.if-self-eq0.false)

pub period_of-requires-clause-apart : goal.period_of-requires-clause-apart
period_of-requires-clause-apart c = c.if-row-self.false

pub is_near-requires-clause-lawful : goal.is_near-requires-clause-lawful
is_near-requires-clause-lawful c = c.requires.gone.ready.lawful

pub is_near-requires-clause-begun : goal.is_near-requires-clause-begun
is_near-requires-clause-begun c = step_begun c.args._rows.now c.args.task (wide_of c.args.self.now) _ c.requires.gone c.if-self.false c.if-row-self.false

pub is_near-requires-clause-begins : goal.is_near-requires-clause-begins
is_near-requires-clause-begins c = c.in-Some-period_of.ensures

pub is_near-requires-clause-end : goal.is_near-requires-clause-end
is_near-requires-clause-end c = c.in-Some.ensures.end

pub is_near-requires-clause-long : goal.is_near-requires-clause-long
is_near-requires-clause-long c = c.if-end-row.false

pub is_near-requires-clause-small : goal.is_near-requires-clause-small
is_near-requires-clause-small c = step_small c.args._rows.now c.args.task (wide_of c.args.self.now) _ c.requires.gone c.if-self.false c.if-row-self.false

pub step_near-requires-clause-gone : goal.step_near-requires-clause-gone
step_near-requires-clause-gone c = c.requires.gone

pub step_near-requires-clause-some : goal.step_near-requires-clause-some
step_near-requires-clause-some c = (some_gone _ c.if-self-eq0.false)

pub step_near-requires-clause-room : goal.step_near-requires-clause-room
step_near-requires-clause-room c = c.if-self.false

pub step_near-requires-clause-within : goal.step_near-requires-clause-within
step_near-requires-clause-within c = c.requires.within

pub step_near-requires-clause-row : goal.step_near-requires-clause-row
step_near-requires-clause-row c = c.requires.row

pub step_near-requires-clause-key : goal.step_near-requires-clause-key
step_near-requires-clause-key c = c.requires.key

pub step_near-requires-clause-end : goal.step_near-requires-clause-end
step_near-requires-clause-end c = c.in-Some.ensures.end

pub step_near-requires-clause-apart : goal.step_near-requires-clause-apart
step_near-requires-clause-apart c = c.if-row-self.false

pub step_near-requires-clause-long : goal.step_near-requires-clause-long
step_near-requires-clause-long c = c.if-end-row.false

pub step_near-requires-clause-ends : goal.step_near-requires-clause-ends
step_near-requires-clause-ends c = c.in-Some.ensures.within

pub step_near-requires-clause-small : goal.step_near-requires-clause-small
step_near-requires-clause-small c = step_small c.args._rows.now c.args.task (wide_of c.args.self.now) _ c.requires.gone c.if-self.false c.if-row-self.false

pub step_near-requires-clause-paced : goal.step_near-requires-clause-paced
step_near-requires-clause-paced c = (step_paced c.args._rows.now c.args.task (wide_of c.args.self.now) c.requires.gone (some_gone _ c.if-self-eq0.false)).tick

pub step_near-requires-clause-few_preempted : goal.step_near-requires-clause-few_preempted
step_near-requires-clause-few_preempted c = step_preempted c.args._rows.now c.args.task (wide_of c.args.self.now) c.requires.gone
    (some_gone _ c.if-self-eq0.false) (omega arith)

pub step_near-requires-clause-few_moved : goal.step_near-requires-clause-few_moved
step_near-requires-clause-few_moved c = step_moved c.args._rows.now c.args.task (wide_of c.args.self.now) c.requires.gone (some_gone _ c.if-self-eq0.false)
    (omega arith)

pub step_near-requires-clause-near : goal.step_near-requires-clause-near
step_near-requires-clause-near c = c.is_near.ensures c.if-is_near.true

pub returns-then-is_near-clause-periods : goal.returns-then-is_near-clause-periods
returns-then-is_near-clause-periods c = c.step_near.ensures.periods

pub returns-then-is_near-clause-gone : goal.returns-then-is_near-clause-gone
returns-then-is_near-clause-gone c = λ _. c.step_near.ensures.gone

pub returns-then-is_near-clause-same : goal.returns-then-is_near-clause-same
returns-then-is_near-clause-same c = λ is. (let e : true ≡ false = is in cc)

pub crosses-requires-clause-begins : goal.crosses-requires-clause-begins
crosses-requires-clause-begins c = c.in-Some-period_of.ensures

pub crosses-requires-clause-small : goal.crosses-requires-clause-small
crosses-requires-clause-small c = step_small c.args._rows.now c.args.task (wide_of c.args.self.now) _ c.requires.gone c.if-self.false c.if-row-self.false

pub step_over-requires-clause-gone : goal.step_over-requires-clause-gone
step_over-requires-clause-gone c = c.requires.gone

pub step_over-requires-clause-some : goal.step_over-requires-clause-some
step_over-requires-clause-some c = (some_gone _ c.if-self-eq0.false)

pub step_over-requires-clause-room : goal.step_over-requires-clause-room
step_over-requires-clause-room c = c.if-self.false

pub step_over-requires-clause-within : goal.step_over-requires-clause-within
step_over-requires-clause-within c = c.requires.within

pub step_over-requires-clause-row : goal.step_over-requires-clause-row
step_over-requires-clause-row c = c.requires.row

pub step_over-requires-clause-key : goal.step_over-requires-clause-key
step_over-requires-clause-key c = c.requires.key

pub step_over-requires-clause-end : goal.step_over-requires-clause-end
step_over-requires-clause-end c = c.in-Some.ensures.end

pub step_over-requires-clause-apart : goal.step_over-requires-clause-apart
step_over-requires-clause-apart c = c.if-row-self.false

pub step_over-requires-clause-long : goal.step_over-requires-clause-long
step_over-requires-clause-long c = c.if-end-row.false

pub step_over-requires-clause-ends : goal.step_over-requires-clause-ends
step_over-requires-clause-ends c = c.in-Some.ensures.within

pub step_over-requires-clause-small : goal.step_over-requires-clause-small
step_over-requires-clause-small c = step_small c.args._rows.now c.args.task (wide_of c.args.self.now) _ c.requires.gone c.if-self.false c.if-row-self.false

pub step_over-requires-clause-paced : goal.step_over-requires-clause-paced
step_over-requires-clause-paced c = (step_paced c.args._rows.now c.args.task (wide_of c.args.self.now) c.requires.gone (some_gone _ c.if-self-eq0.false)).tick

pub step_over-requires-clause-few_preempted : goal.step_over-requires-clause-few_preempted
step_over-requires-clause-few_preempted c = step_preempted c.args._rows.now c.args.task (wide_of c.args.self.now) c.requires.gone
    (some_gone _ c.if-self-eq0.false) (omega arith)

pub step_over-requires-clause-few_moved : goal.step_over-requires-clause-few_moved
step_over-requires-clause-few_moved c = step_moved c.args._rows.now c.args.task (wide_of c.args.self.now) c.requires.gone (some_gone _ c.if-self-eq0.false)
    (omega arith)

pub step_over-requires-clause-begins : goal.step_over-requires-clause-begins
step_over-requires-clause-begins c = c.in-Some-period_of.ensures

pub step_over-requires-clause-past : goal.step_over-requires-clause-past
step_over-requires-clause-past c = c.crosses.ensures.past c.if-not-crosses.false

pub step_over-requires-clause-below : goal.step_over-requires-clause-below
step_over-requires-clause-below c = c.crosses.ensures.within c.if-not-crosses.false

pub step_over-requires-clause-due : goal.step_over-requires-clause-due
step_over-requires-clause-due c = c.crosses.ensures.due c.if-not-crosses.false

pub returns-clause-periods : goal.returns-clause-periods
returns-clause-periods c = c.step_over.ensures.periods

pub returns-clause-gone : goal.returns-clause-gone
returns-clause-gone c = c.step_over.ensures.gone

pub returns-clause-same : goal.returns-clause-same
returns-clause-same c = c.step_over.ensures.same
