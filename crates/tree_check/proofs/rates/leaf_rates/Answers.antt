use Rattle.std.proofs.Common.{ℕ, ◌≤◌, ◌^◌, arith, List, ◌++◌, map, sym, subst, ◌∙◌, ap, ap₂}
use Rattle.std.specs.Int.{◌∣◌}
use Rattle.std.proofs.lemmas.List.{get_or_default}
use Rattle.sched_base.specs.declared.sets.Task.{Task}
use Rattle.std.specs.List.{AllByRecursion}
use Rattle.sched_base.specs.Sets.{no_task, SetContents, IsLawfulTask}
use Rattle.sched_base.specs.Scale.{PeriodsDivide, rate_of}
use Rattle.sched_base.proofs.RateLemmas.{period_divides}
use Rattle.tree_check.proofs.LevelLists.{all_at}
use Rattle.run_tree.proofs.MappedLists.{mapped_more, mapped_all}
use Rattle.std.proofs.lemmas.Result.{IfOk-from_err}
use Rattle.tree_check.proofs.rates.leaf_rates.Goals as goal

pub rate-requires : goal.rate-requires
rate-requires c =
    let tasks = c.tasks-task-items.result.now in
    let iw = c.scale-scale.ensures.lawful in
    let P : List Task → Type 0 = λ ts. PeriodsDivide ts c.scale-scale.result in
    let Q : ℕ → Type 0 = λ s. PeriodsDivide c.args.tree.now.set.tasks s in
    let divided = subst P (sym (c.tasks-task-items.ensures.value ∙ ap (λ (s : SetContents). s.tasks) c.set.ensures.value))
    (subst Q (sym c.scale-scale.ensures.value) iw.is_scale.divided) in
    let is = c.task-item.is ∙ get_or_default tasks c.loop-task.task-index c.task-item.result no_task c.loop-task-test.true in
    let each = subst (λ (ts : List Task). AllByRecursion IsLawfulTask ts) (sym c.tasks-task-items.ensures.value) c.tasks-task-items.ensures.lawful.each in
    let lawful = subst IsLawfulTask (sym is) (all_at IsLawfulTask no_task tasks c.loop-task.task-index each c.loop-task-test.true) in
    let some : 1 ≤ c.task-item.result.period = (let work = lawful.some_work in let within = lawful.work_fits in omega (arith, work, within)) in
    let fits : c.scale-scale.result ≤ 2 ^ 94 = (let value = c.scale-scale.ensures.value in let few = iw.scale_fits in omega (arith, value, few)) in
    record {
      work_fits = lawful.work_fits;
      some_period = some;
      scale_fits = fits;
      divides = subst (λ (t : Task). t.period ∣ c.scale-scale.result) (sym is) (period_divides tasks c.scale-scale.result c.loop-task.task-index divided
          c.loop-task-test.true);
    }

pub loop-task-preserved : goal.loop-task-preserved
loop-task-preserved c = mapped_more (rate_of c.scale-scale.result) c.tasks-task-items.result.now c.loop-task.task-index c.task-item.result _ _ c.rate.result
    c.loop-task-test.true c.task-item.is c.loop-task.invariant c.in_ok-push.ensures.items c.rate.ensures.value

pub returns : goal.returns
returns c =
    let tasks = c.tasks-task-items.ensures.value ∙ ap (λ (s : SetContents). s.tasks) c.set.ensures.value in
    let rates = mapped_all (rate_of c.scale-scale.result) c.tasks-task-items.result.now c.loop-task.task-index _ c.loop-task-test.false
    c.loop-task.invariant ∙ ap₂ (λ (s : ℕ) (ts : List Task). map (rate_of s) ts) c.scale-scale.ensures.value tasks in
    c.in_ok-extend_from_slice.ensures.items ∙ ap₂ (λ (xs ys : List ℕ). xs ++ ys) rates c.idles.ensures

pub returns-in_err-push : goal.returns-in_err-push
returns-in_err-push c = IfOk-from_err _ _ c.from_residual.ensures.0

pub returns-in_err-extend_from_slice : goal.returns-in_err-extend_from_slice
returns-in_err-extend_from_slice c = IfOk-from_err _ _ c.from_residual-in_err-extend_from_slice.ensures.0

pub loop-task-init : goal.loop-task-init
loop-task-init c = c.new-rates.ensures.items
