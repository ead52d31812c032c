use Rattle.std.proofs.Common.{arith, false, refl, subst, sym, List, ◌∙◌}
use Rattle.std.specs.List.{list_any}
use Rattle.std.proofs.lemmas.List.{get_or_default, take_all}
use Rattle.std.proofs.lemmas.List.Elements.{All-from_recursion, All-get_or}
use Rattle.sched_base.specs.declared.sets.Task.{Task}
use Rattle.sched_base.specs.Boundaries.{task_boundary}
use Rattle.sched_base.specs.Sets.{no_task, IsLawfulTask}
use Rattle.wrap_sched.specs.Steps.{IsNext}
use Rattle.wrap_sched.proofs.StepLemmas.{next_is_point, next_none, next_task}
use Rattle.wrap_sched.proofs.points.next_point.Goals as goal

pub loop-task-init : goal.loop-task-init
loop-task-init c = rw c.horizon-next.ensures.value (next_none (λ k. false) c.args.set.now.horizon c.args.x c.requires (λ k above. refl))

pub next_boundary-requires-clause-lawful : goal.next_boundary-requires-clause-lawful
next_boundary-requires-clause-lawful c =
    let tasks = c.tasks-tasks.result.now in
    let each = rw (← c.tasks-tasks.ensures.value) at c.tasks-tasks.ensures.lawful.each in
    let is = c.task-item.is ∙ get_or_default tasks c.loop-task.task-index c.task-item.result no_task c.loop-task-test.true in
    subst IsLawfulTask (sym is) (All-get_or IsLawfulTask tasks c.loop-task.task-index no_task c.loop-task-test.true (All-from_recursion IsLawfulTask tasks
    each))

pub next_boundary-requires-clause-early : goal.next_boundary-requires-clause-early
next_boundary-requires-clause-early c = let fits = c.tasks-tasks.ensures.lawful.horizon_fits in omega (arith, c.requires, fits)

pub loop-task-preserved : goal.loop-task-preserved
loop-task-preserved c =
    let b = c.next_boundary.ensures in
    rw c.min-next.ensures
    (next_task c.tasks-tasks.result.now c.loop-task.task-index c.task-item.result c.args.set.now.horizon c.args.x c.loop-task.next c.next_boundary.result
    c.loop-task-test.true c.task-item.is c.loop-task.invariant b.above b.at b.none)

pub returns : goal.returns
returns c =
    let s = c.args.set.now in
    let tasks = c.tasks-tasks.result.now in
    let off = c.loop-task-test.false in
    let all = take_all c.loop-task.task-index tasks (omega (arith, off)) ∙ c.tasks-tasks.ensures.value in
    next_is_point s.tasks s.horizon c.args.x c.loop-task.next (subst (λ (ts : List Task). IsNext (λ k. list_any (λ task. task_boundary task k) ts) s.horizon
    c.args.x c.loop-task.next) all c.loop-task.invariant)
