use Rattle.std.proofs.Common.{◌<◌, ◌≤◌, ◌^◌, ◌∙◌, length, sym, ap, subst, arith}
use Rattle.sched_base.specs.declared.sets.Task.{Task}
use Rattle.trace_verdict.specs.Searches.{periods_of}
use Rattle.trace_verdict.specs.Supply.{AreLawful}
use Rattle.trace_verdict.proofs.DueLemmas.{lawful_periods}
use Rattle.trace_verdict.proofs.PartLemmas.{lawful_task, task_is}
use Rattle.trace_verdict.proofs.searches.task_periods.Goals as goal

pub offset_bounds-tasks-task : goal.offset_bounds-tasks-task
offset_bounds-tasks-task c =
    let few = c.tasks.ensures.lawful.few_tasks in
    let known = c.requires.known in
    omega (arith, few, known)

pub bounds-tasks-task : goal.bounds-tasks-task
bounds-tasks-task c = subst (λ tasks. c.args.task < length tasks) (sym c.tasks.ensures.value) c.requires.known

pub periods_of-requires-clause-work : goal.periods_of-requires-clause-work
periods_of-requires-clause-work c =
    subst (λ (t : Task). t.work ≤ t.period) (sym (task_is c.args.set.now c.tasks.result.now c.args.task c.index-tasks-task.result c.tasks.ensures.value
    c.requires.known c.index-tasks-task.is)) (lawful_task c.args.set.now c.args.task c.tasks.ensures.lawful c.requires.known).work_fits

pub periods_of-requires-clause-period : goal.periods_of-requires-clause-period
periods_of-requires-clause-period c =
    subst (λ (t : Task). t.period < 2 ^ 32) (sym (task_is c.args.set.now c.tasks.result.now c.args.task c.index-tasks-task.result c.tasks.ensures.value
    c.requires.known c.index-tasks-task.is)) (lawful_task c.args.set.now c.args.task c.tasks.ensures.lawful c.requires.known).period_fits

pub periods_of-requires-clause-offset : goal.periods_of-requires-clause-offset
periods_of-requires-clause-offset c =
    subst (λ (t : Task). t.offset < 2 ^ 32) (sym (task_is c.args.set.now c.tasks.result.now c.args.task c.index-tasks-task.result c.tasks.ensures.value
    c.requires.known c.index-tasks-task.is)) (lawful_task c.args.set.now c.args.task c.tasks.ensures.lawful c.requires.known).offset_fits

pub periods_of-requires-clause-scale : goal.periods_of-requires-clause-scale
periods_of-requires-clause-scale c = c.requires.scale

pub returns-clause-periods : goal.returns-clause-periods
returns-clause-periods c =
    c.periods_of.ensures ∙ ap (periods_of c.args.set.now c.args.scale) (task_is c.args.set.now c.tasks.result.now c.args.task c.index-tasks-task.result
    c.tasks.ensures.value c.requires.known c.index-tasks-task.is)

pub returns-clause-lawful : goal.returns-clause-lawful
returns-clause-lawful c =
    subst AreLawful (sym (c.periods_of.ensures ∙ ap (periods_of c.args.set.now c.args.scale) (task_is c.args.set.now c.tasks.result.now c.args.task
    c.index-tasks-task.result c.tasks.ensures.value c.requires.known c.index-tasks-task.is)))
    (lawful_periods c.args.set.now c.args.scale c.args.task c.tasks.ensures.lawful c.requires.some_scale c.requires.scale c.requires.known)
