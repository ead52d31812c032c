use Rattle.std.proofs.Common.{◌≡◌, ◌++◌, ◌∷◌, ◌∙◌, [], List, ℕ, ap, ap₂, arith, length, length-take, refl, subst, sym, take}
use Rattle.std.specs.List.{AllByRecursion}
use Rattle.std.proofs.lemmas.List.{take_all, take_more}
use Rattle.std.proofs.lemmas.Result.{IfOk-from_err}
use Rattle.sched_base.specs.declared.sets.Task as declared
use Rattle.sched_base.specs.Sets.{IsFree, IsLawfulTask, NamesDiffer, SetContents}
use Rattle.repeat_laws.proofs.UpTo.{free_before, lawful_item}
use Rattle.repeat_laws.proofs.sets.up_to.Goals as goal

pub loop-task-init : goal.loop-task-init
loop-task-init c = (refl, refl, c.start-again.ensures.tasks)

pub returns-in_err-add_late : goal.returns-in_err-add_late
returns-in_err-add_late c = IfOk-from_err _ _ c.from_residual.ensures.0

pub returns : goal.returns
returns c =
    let set = c.args.set.now in
    let again = c.loop-task.again in
    let same : again.tasks ≡ set.tasks =
    c.loop-task.invariant.2 ∙ take_all c.loop-task.task-index c.tasks-task-items.result.now c.loop-task-test.false ∙ c.tasks-task-items.ensures.value in
    let shaped : ℕ → ℕ → SetContents = λ m h. record { processors = m; horizon = h; tasks = again.tasks } in
    let filled : List declared.Task → SetContents = λ tasks. record { processors = set.processors; horizon = c.args.horizon; tasks = tasks } in
    ap₂ shaped (c.loop-task.invariant.0 ∙ c.start-again.ensures.processors ∙ c.processors.ensures.value) (c.loop-task.invariant.1
    ∙ c.start-again.ensures.horizon)
    ∙ ap filled same

pub loop-task-preserved : goal.loop-task-preserved
loop-task-preserved c =
    let items = c.tasks-task-items.result.now in
    let i = c.loop-task.task-index in
    let task = c.task-item.result in
    let named : List ℕ → declared.Task = λ name. record { name = name; work = task.work; period = task.period; offset = task.offset } in
    let more = c.in_ok-add_late.ensures.ok in (
      ap (λ (s : SetContents). s.processors) more ∙ c.loop-task.invariant.0,
      ap (λ (s : SetContents). s.horizon) more ∙ c.loop-task.invariant.1,
      ap (λ (s : SetContents). s.tasks) more
          ∙ ap (λ (xs : List declared.Task). xs ++ named c.as_slice.result.now ∷ []) c.loop-task.invariant.2
          ∙ ap (λ (t : declared.Task). take i items ++ t ∷ []) (ap named c.as_slice.ensures.bytes ∙ c.task-item.is)
          ∙ sym (take_more items i task c.loop-task-test.true),
    )

pub add_late-requires-clause-room : goal.add_late-requires-clause-room
add_late-requires-clause-room c =
    let few = c.know_lawful.ensures.lawful.few_tasks in
    let long = ap length c.tasks-task-items.ensures.value in
    let so_far = ap length c.loop-task.invariant.2 in
    let most = length-take c.loop-task.task-index c.tasks-task-items.result.now in
    let low = c.loop-task-test.true in
    omega (arith, few, long, so_far, most, low)

pub add_late-requires-clause-free : goal.add_late-requires-clause-free
add_late-requires-clause-free c =
    let items = c.tasks-task-items.result.now in
    let differ : NamesDiffer items = subst NamesDiffer (sym c.tasks-task-items.ensures.value) c.know_lawful.ensures.lawful.names_differ in
    let free = free_before items c.loop-task.task-index c.task-item.result c.loop-task-test.true c.task-item.is differ in
    subst (λ (ts : List declared.Task). IsFree c.as_slice.result.now ts) (sym c.loop-task.invariant.2)
    (subst (λ (name : List ℕ). IsFree name (take c.loop-task.task-index items)) (sym c.as_slice.ensures.bytes) free)

pub add_late-requires-clause-lawful : goal.add_late-requires-clause-lawful
add_late-requires-clause-lawful c = c.as_slice.ensures.lawful

pub add_late-requires-clause-some_work : goal.add_late-requires-clause-some_work
add_late-requires-clause-some_work c =
    (lawful_item c.tasks-task-items.result.now c.loop-task.task-index c.task-item.result c.loop-task-test.true c.task-item.is
    (subst (AllByRecursion IsLawfulTask) (sym c.tasks-task-items.ensures.value) c.know_lawful.ensures.lawful.each)).some_work

pub add_late-requires-clause-work_fits : goal.add_late-requires-clause-work_fits
add_late-requires-clause-work_fits c =
    (lawful_item c.tasks-task-items.result.now c.loop-task.task-index c.task-item.result c.loop-task-test.true c.task-item.is
    (subst (AllByRecursion IsLawfulTask) (sym c.tasks-task-items.ensures.value) c.know_lawful.ensures.lawful.each)).work_fits

pub add_late-requires-clause-period_fits : goal.add_late-requires-clause-period_fits
add_late-requires-clause-period_fits c =
    (lawful_item c.tasks-task-items.result.now c.loop-task.task-index c.task-item.result c.loop-task-test.true c.task-item.is
    (subst (AllByRecursion IsLawfulTask) (sym c.tasks-task-items.ensures.value) c.know_lawful.ensures.lawful.each)).period_fits

pub add_late-requires-clause-offset_fits : goal.add_late-requires-clause-offset_fits
add_late-requires-clause-offset_fits c =
    (lawful_item c.tasks-task-items.result.now c.loop-task.task-index c.task-item.result c.loop-task-test.true c.task-item.is
    (subst (AllByRecursion IsLawfulTask) (sym c.tasks-task-items.ensures.value) c.know_lawful.ensures.lawful.each)).offset_fits
