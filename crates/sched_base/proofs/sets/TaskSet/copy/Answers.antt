use Rattle.std.proofs.Common.{◌≡◌, ◌∙◌, ◌++◌, ◌∷◌, [], List, ℕ, take, ap, subst, sym}
use Rattle.std.proofs.lemmas.List.{take_all, take_more}
use Rattle.std.proofs.lemmas.Result.{IfOk-from_err}
use Rattle.sched_base.specs.declared.sets.Task as declared
use Rattle.sched_base.specs.Sets.{SetContents, IsLawful}
use Rattle.sched_base.proofs.sets.TaskSet.copy.Goals as goal

pub loop-task-init : goal.loop-task-init
loop-task-init c = c.new-tasks.ensures.items

pub returns-in_err-push : goal.returns-in_err-push
returns-in_err-push c = IfOk-from_err _ _ c.from_residual.ensures.0

pub invariant_of-result : goal.invariant_of-result
invariant_of-result c =
    let same : c.loop-task.tasks.items ≡ c.self.inside.tasks.items = c.loop-task.invariant ∙ take_all c.loop-task.task-index c.deref-task-items.result.now
    c.loop-task-test.false ∙ c.deref-task-items.ensures.value in
    let with_tasks : List declared.Task → SetContents = λ tasks. record
    { processors = c.self.inside.processors; horizon = c.self.inside.horizon; tasks = tasks } in
    subst (λ (tasks : List declared.Task). IsLawful (with_tasks tasks)) (sym same) c.self.invariant

pub returns : goal.returns
returns c =
    let same : c.loop-task.tasks.items ≡ c.self.inside.tasks.items = c.loop-task.invariant ∙ take_all c.loop-task.task-index c.deref-task-items.result.now
    c.loop-task-test.false ∙ c.deref-task-items.ensures.value in
    let with_tasks : List declared.Task → SetContents = λ tasks. record
    { processors = c.self.inside.processors; horizon = c.self.inside.horizon; tasks = tasks } in
    ap with_tasks same ∙ c.self.view_is

pub loop-task-preserved : goal.loop-task-preserved
loop-task-preserved c =
    let tasks = c.deref-task-items.result.now in
    let i = c.loop-task.task-index in
    let task = c.task-item.result in
    let named : List ℕ → declared.Task = λ name. record { name = name; work = task.work; period = task.period; offset = task.offset } in
    c.in_ok-push.ensures.items
    ∙ ap (λ (xs : List declared.Task). xs ++ named c.new.result ∷ []) c.loop-task.invariant
    ∙ ap (λ (t : declared.Task). take i tasks ++ t ∷ []) (ap named (c.new.ensures ∙ c.as_slice.ensures.bytes) ∙ c.task-item.is)
    ∙ sym (take_more tasks i task c.loop-task-test.true)
