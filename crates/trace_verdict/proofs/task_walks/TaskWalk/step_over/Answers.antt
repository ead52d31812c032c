use Rattle.std.proofs.Common.{◌≡◌, ◌+◌, ◌&&◌, true, false, Some, refl, subst, ap, ◌∙◌}
use Rattle.sched_base.specs.Counting.{bit}
use Rattle.sched_base.specs.declared.rows.Row.{Row}
use Rattle.trace_verdict.specs.Orders.{task_key}
use Rattle.trace_verdict.proofs.CrossLemmas.{cross_gone}
use Rattle.trace_verdict.proofs.StepLemmas.{begins_early, counted_fits, no_later, step_small}
use Rattle.trace_verdict.proofs.task_walks.TaskWalk.step_over.Goals as goal

pub returns-clause-gone : goal.returns-clause-gone
returns-clause-gone c =
    let t = c.args.self.now in
    let n = c.in-Some.near in
    let crosses = c.if-not-crosses.false in
    cross_gone c.args._rows.now c.args._task c.args._place t c.args.row.now n
    (record { preemptions = t.found.preemptions + c.one_if.result; migrations = t.found.migrations + c.one_if-2.result; response = c.max.result })
    c.requires.gone c.requires.some c.requires.room
    (record { within = c.requires.within; key = subst (λ (r : Row). task_key r ≡ Some c.args._task) c.requires.row c.requires.key }) c.requires.row
    c.requires.apart c.requires.long c.requires.ends
    (record { period = c.in-Some.ensures; past = c.crosses.ensures.past crosses; ends = c.crosses.ensures.within crosses; due = c.crosses.ensures.due crosses })
    (ap (λ x. t.found.preemptions + x) (c.one_if.ensures ∙ ap (λ b. bit (n.same && b)) c.is_preemption.ensures))
    (ap (λ x. t.found.migrations + x) (c.one_if-2.ensures ∙ ap (λ b. bit (n.same && b)) c.is_migration.ensures))
    c.max.ensures

pub period_of-requires-clause-lawful : goal.period_of-requires-clause-lawful
period_of-requires-clause-lawful c = c.requires.lawful

pub period_of-requires-clause-stands : goal.period_of-requires-clause-stands
period_of-requires-clause-stands c = c.requires.stands

pub period_of-requires-clause-paced : goal.period_of-requires-clause-paced
period_of-requires-clause-paced c = c.requires.paced

pub period_of-requires-clause-apart : goal.period_of-requires-clause-apart
period_of-requires-clause-apart c = c.requires.apart

pub period_of-requires-clause-ends : goal.period_of-requires-clause-ends
period_of-requires-clause-ends c = begins_early _ _ _ c.requires.long c.requires.ends

pub returns-in_default-clause-periods : goal.returns-in_default-clause-periods
returns-in_default-clause-periods c = refl

pub returns-in_default-clause-gone : goal.returns-in_default-clause-gone
returns-in_default-clause-gone c = c.requires.gone

pub returns-in_default-clause-same : goal.returns-in_default-clause-same
returns-in_default-clause-same c = λ _. refl

pub returns-then-not-crosses-clause-periods : goal.returns-then-not-crosses-clause-periods
returns-then-not-crosses-clause-periods c = refl

pub returns-then-not-crosses-clause-gone : goal.returns-then-not-crosses-clause-gone
returns-then-not-crosses-clause-gone c = c.requires.gone

pub returns-then-not-crosses-clause-same : goal.returns-then-not-crosses-clause-same
returns-then-not-crosses-clause-same c = λ _. refl

pub crosses-requires-clause-lawful : goal.crosses-requires-clause-lawful
crosses-requires-clause-lawful c = c.requires.lawful

pub crosses-requires-clause-begins : goal.crosses-requires-clause-begins
crosses-requires-clause-begins c = c.in-Some.ensures

pub crosses-requires-clause-ends : goal.crosses-requires-clause-ends
crosses-requires-clause-ends c = c.requires.ends

pub crosses-requires-clause-small : goal.crosses-requires-clause-small
crosses-requires-clause-small c = step_small c.args._rows.now c.args._task c.args.self.now _ c.requires.gone c.requires.room c.requires.apart

pub overflow_add-self : goal.overflow_add-self
overflow_add-self c = counted_fits _ _ _ c.one_if.ensures c.requires.few_preempted

pub overflow_add-self-2 : goal.overflow_add-self-2
overflow_add-self-2 c = counted_fits _ _ _ c.one_if-2.ensures c.requires.few_moved

pub overflow_sub-self : goal.overflow_sub-self
overflow_sub-self c = no_later _ _ c.requires.long

pub returns-clause-periods : goal.returns-clause-periods
returns-clause-periods c = refl

pub returns-clause-same : goal.returns-clause-same
returns-clause-same c = λ is. (let e : true ≡ false = is in cc)
