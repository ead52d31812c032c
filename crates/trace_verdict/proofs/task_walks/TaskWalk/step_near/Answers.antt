use Rattle.std.proofs.Common.{◌≡◌, Some, subst, arith}
use Rattle.sched_base.specs.declared.rows.Row.{Row}
use Rattle.trace_verdict.specs.Orders.{task_key}
use Rattle.trace_verdict.proofs.NearLemmas.{near_gone}
use Rattle.trace_verdict.proofs.task_walks.TaskWalk.step_near.Goals as goal

pub found_with-self-requires-clause-begun : goal.found_with-self-requires-clause-begun
found_with-self-requires-clause-begun c = (let b = c.requires.near.period.begun in omega (arith, b, c.requires.long))

pub returns-clause-gone : goal.returns-clause-gone
returns-clause-gone c =
    near_gone c.args._rows.now c.args._task c.args._place c.args.self.now c.args.row.now c.args.near.now c.found_with-self.result c.requires.gone
    c.requires.some c.requires.room
    (record { within = c.requires.within; key = subst (λ (r : Row). task_key r ≡ Some c.args._task) c.requires.row c.requires.key }) c.requires.row
    c.requires.apart c.requires.long c.requires.ends c.requires.near c.found_with-self.ensures.preemptions c.found_with-self.ensures.migrations
    c.found_with-self.ensures.response
