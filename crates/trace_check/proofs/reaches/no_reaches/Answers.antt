use Rattle.std.proofs.Common.{◌≡◌, ◌<◌, ◌++◌, ◌∷◌, ◌∙◌, [], length, length-append, subst, sym, ap, arith}
use Rattle.sched_base.specs.Sets.{task_at}
use Rattle.trace_verdict.proofs.PartLemmas.{task_is}
use Rattle.trace_check.specs.Reaches.{HaveEnds, IsReachOf, AreReachesOf}
use Rattle.trace_check.proofs.EndsLemmas.{ends_push, periods_push, none_yet}
use Rattle.trace_check.proofs.reaches.no_reaches.Goals as goal

pub loop-task-init : goal.loop-task-init
loop-task-init c = none_yet c.args.scale c.args.set.now.tasks c.new-reaches.result.items c.new-reaches.ensures.items

pub loop-task-preserved : goal.loop-task-preserved
loop-task-preserved c =
    let old = c.loop-task.reaches.items in
    let new = c.in_ok-new.field-0 in
    let items = c.in_ok-push.ensures.items in
    let all = length-append old (new ∷ []) in
    let size : length c.push.new.self.items ≡ length (old ++ new ∷ []) = ap length items in
    let had = c.loop-task.invariant.1 in
    let value = c.tasks-task-items.ensures.value in
    let within : c.loop-task.task-index < length c.args.set.now.tasks = subst (λ ts. c.loop-task.task-index < length ts) value c.loop-task-test.true in
    let known = task_is c.args.set.now c.tasks-task-items.result.now c.loop-task.task-index c.task-item.result value within c.task-item.is in
    let is : c.task-item.result ≡ task_at c.args.set.now.tasks (length old) = known ∙ ap (task_at c.args.set.now.tasks) (sym had) in (
      subst (AreReachesOf c.args.scale c.args.set.now.tasks) (sym items)
          (periods_push c.args.scale c.args.set.now.tasks old new c.loop-task.invariant.0 (subst (λ t. IsReachOf c.args.scale t new) is
          c.in_ok-new.ensures.periods)),
      omega (arith, size, all, had),
      subst (HaveEnds []) (sym items) (ends_push old new c.loop-task.invariant.2 c.in_ok-new.ensures.ends),
    )

pub returns-clause-periods : goal.returns-clause-periods
returns-clause-periods c = c.loop-task.invariant.0
