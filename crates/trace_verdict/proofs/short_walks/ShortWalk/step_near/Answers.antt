use Rattle.std.proofs.Common.{◌≡◌, ◌+◌, ◌&&◌, Some, ap, ◌∙◌, max, subst, refl}
use Rattle.sched_base.specs.Counting.{bit}
use Rattle.sched_base.specs.declared.rows.Row.{Row}
use Rattle.trace_verdict.specs.Orders.{task_key}
use Rattle.trace_verdict.proofs.ShortWalkLemmas.{short_near_gone}
use Rattle.trace_verdict.proofs.StepLemmas.{begins_by, counted_fits, no_later}
use Rattle.trace_verdict.proofs.short_walks.ShortWalk.step_near.Goals as goal

pub returns-clause-gone : goal.returns-clause-gone
returns-clause-gone c =
    let w = c.args.self.now in
    let n = c.args.near.now in
    short_near_gone c.args._rows.now c.args._task c.args._place w c.args.row.now n c.args.end
    (record { preemptions = w.preemptions + c.one_if.result; migrations = w.migrations + c.one_if-2.result; response = c.max-self.result })
    c.requires.gone c.requires.some c.requires.room
    (record { within = c.requires.within; key = subst (λ (r : Row). task_key r ≡ Some c.args._task) c.requires.row c.requires.key }) c.requires.row
    c.requires.end
    c.requires.apart c.requires.long c.requires.ends c.requires.near
    (ap (λ x. w.preemptions + x) (c.one_if.ensures ∙ ap (λ b. bit (n.same && b)) c.is_preempted.ensures))
    (ap (λ x. w.migrations + x) (c.one_if-2.ensures ∙ ap (λ b. bit (n.same && b)) c.is_moved.ensures))
    (c.max-self.ensures ∙ ap (λ x. max w.response x) c.finished.ensures)

pub is_preempted-requires : goal.is_preempted-requires
is_preempted-requires c = c.requires.paced

pub overflow_add-self : goal.overflow_add-self
overflow_add-self c = counted_fits _ _ _ c.one_if.ensures c.requires.few_preempted

pub overflow_add-self-2 : goal.overflow_add-self-2
overflow_add-self-2 c = counted_fits _ _ _ c.one_if-2.ensures c.requires.few_moved

pub finished-requires : goal.finished-requires
finished-requires c = begins_by _ _ _ c.requires.near.period.begun c.requires.long

pub overflow_sub-self : goal.overflow_sub-self
overflow_sub-self c = no_later _ _ c.requires.long

pub returns-clause-periods : goal.returns-clause-periods
returns-clause-periods c = refl
