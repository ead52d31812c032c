use Rattle.std.proofs.Common.{ap, arith, get_or, length, refl, sym, subst, ◌*◌, ◌≤◌, ◌≡◌, ◌∙◌}
use Rattle.std.specs.Int.{◌∣◌}
use Rattle.std.proofs.Math.Nat.{mul-le-mul_right}
use Rattle.std.proofs.lemmas.List.{get_or_default, take_all}
use Rattle.std.proofs.lemmas.List.Elements.{All-from_recursion, All-get_or}
use Rattle.std.proofs.lemmas.List.Sums.{sum_by_more}
use Rattle.sched_base.specs.declared.sets.Task.{Task}
use Rattle.sched_base.specs.Sets.{no_task, IsLawfulTask}
use Rattle.sched_base.specs.Scale.{rate_of, total_of}
use Rattle.sched_base.proofs.RateLemmas.{period_divides}
use Rattle.rate_scale.proofs.rates.total.Goals.{After-task-item}
use Rattle.rate_scale.proofs.rates.total.Goals as goal

module _ (c : After-task-item) where
  is : c.task-item.result ≡ get_or c.tasks-tasks.result.now c.loop-task.task-index no_task
  is = c.task-item.is ∙ get_or_default c.tasks-tasks.result.now c.loop-task.task-index c.task-item.result no_task c.loop-task-test.true

  lawful : IsLawfulTask c.task-item.result
  lawful =
      let tasks = c.tasks-tasks.result.now in
      let each = rw (← c.tasks-tasks.ensures.value) at c.tasks-tasks.ensures.lawful.each in
      subst IsLawfulTask (sym is) (All-get_or IsLawfulTask tasks c.loop-task.task-index no_task c.loop-task-test.true (All-from_recursion IsLawfulTask tasks
      each))

pub rate-sum-requires-clause-work_fits : goal.rate-sum-requires-clause-work_fits
rate-sum-requires-clause-work_fits c = (lawful (goal.at.rate-sum-requires-clause-work_fits c).After-task-item).work_fits

pub rate-sum-requires-clause-some_period : goal.rate-sum-requires-clause-some_period
rate-sum-requires-clause-some_period c =
    let task = lawful (goal.at.rate-sum-requires-clause-some_period c).After-task-item in
    let some = task.some_work in
    let fits = task.work_fits in
    omega (arith, some, fits)

pub rate-sum-requires-clause-divides : goal.rate-sum-requires-clause-divides
rate-sum-requires-clause-divides c =
    let tasks = c.tasks-tasks.result.now in
    let divided = rw (← c.tasks-tasks.ensures.value) at c.requires.scale.divided in
    subst (λ (t : Task). t.period ∣ c.args.scale) (sym (is (goal.at.rate-sum-requires-clause-divides c).After-task-item)) (period_divides tasks c.args.scale
    c.loop-task.task-index divided c.loop-task-test.true)

pub rate-sum-requires-clause-scale_fits : goal.rate-sum-requires-clause-scale_fits
rate-sum-requires-clause-scale_fits c = c.requires.scale_fits

pub overflow_add-sum : goal.overflow_add-sum
overflow_add-sum c =
    let on = c.loop-task-test.true in
    let count = ap length c.tasks-tasks.ensures.value in
    let few = c.tasks-tasks.ensures.lawful.few_tasks in
    let times : c.loop-task.task-index * c.args.scale ≤ 256 * c.args.scale = mul-le-mul_right c.args.scale (omega (arith, on, count, few)) in
    let so_far = c.loop-task.invariant.1 in
    let more = c.rate-sum.ensures.within in
    omega (arith, times, so_far, more, c.requires.scale_fits)

pub loop-task-init : goal.loop-task-init
loop-task-init c = (refl, omega arith)

pub loop-task-preserved : goal.loop-task-preserved
loop-task-preserved c =
    let one = sum_by_more (rate_of c.args.scale) c.tasks-tasks.result.now c.loop-task.task-index no_task c.loop-task-test.true in
    let here = c.rate-sum.ensures.value ∙ ap (rate_of c.args.scale) (is (goal.at.loop-task-preserved c).After-task-item) in
    let so_far = c.loop-task.invariant.0 in
    let within = c.loop-task.invariant.1 in
    let more = c.rate-sum.ensures.within in
    (omega (arith, one, here, so_far), omega (arith, within, more))

pub returns-clause-value : goal.returns-clause-value
returns-clause-value c =
    let off = c.loop-task-test.false in
    c.loop-task.invariant.0 ∙ ap (total_of c.args.scale) (take_all c.loop-task.task-index c.tasks-tasks.result.now (omega (arith, off))
    ∙ c.tasks-tasks.ensures.value)

pub returns-clause-within : goal.returns-clause-within
returns-clause-within c =
    let end = c.loop-task.auto.task-index-end in
    let count = ap length c.tasks-tasks.ensures.value in
    let few = c.tasks-tasks.ensures.lawful.few_tasks in
    let times : c.loop-task.task-index * c.args.scale ≤ 256 * c.args.scale = mul-le-mul_right c.args.scale (omega (arith, end, count, few)) in
    let so_far = c.loop-task.invariant.1 in
    omega (arith, times, so_far)
