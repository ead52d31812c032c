use Rattle.std.proofs.Common.{◌≡◌, ◌∷◌, ◌++◌, [], List, length, length-append, sym, ap, ◌∙◌, subst, arith}
use Rattle.trace_verdict.specs.declared.task_walks.TaskWalk.{TaskWalk}
use Rattle.trace_verdict.specs.Timed.{AreGoing}
use Rattle.trace_verdict.proofs.TimedLemmas.{going_more}
use Rattle.trace_verdict.proofs.timed.all_walks.Goals as goal

pub loop-task-preserved : goal.loop-task-preserved
loop-task-preserved c =
    let s = c.args.set.now in
    let l = c.args.scale in
    let j = c.loop-task.task in
    let old : List TaskWalk = c.loop-task.walks.items in
    let had : length old ≡ j = c.loop-task.invariant.0 in
    let items : c.push.new.self.items ≡ old ++ c.new.result ∷ [] = c.in_ok-push.ensures.items in
    let all = length-append old (c.new.result ∷ []) in
    let size : length c.push.new.self.items ≡ length (old ++ c.new.result ∷ []) = ap length items in (
      omega (arith, size, all, had),
      λ rows. subst (AreGoing s l rows 0) (sym items)
          (going_more s l rows j old c.new.result had (c.loop-task.invariant.1 rows) (c.new.ensures.gone rows j) (c.new.ensures.periods
          ∙ c.task_periods.ensures.periods)),
    )
