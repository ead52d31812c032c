use Rattle.std.proofs.Common.{◌-◌, ◌^◌, ◌∙◌, min, ap}
use Rattle.trace_draw.proofs.ServedLemmas.{places_within, task_given, task_done}
use Rattle.trace_draw.proofs.served.served_between.Goals as goal

pub given_at-requires : goal.given_at-requires
given_at-requires c = rw c.rows-rows.ensures.value (places_within c.args.trace.now.rows c.args.task c.by_task-places.result.now c.by_task-places.ensures)

pub reach_at-requires : goal.reach_at-requires
reach_at-requires c = rw c.rows-rows.ensures.value (places_within c.args.trace.now.rows c.args.task c.by_task-places.result.now c.by_task-places.ensures)

pub returns-clause-given : goal.returns-clause-given
returns-clause-given c =
    let given = rw c.rows-rows.ensures.value at c.given_at.ensures in
    given ∙ ap (λ n. min n (2 ^ 128 - 1)) (task_given c.args.trace.now.rows c.args.task c.args.from c.args.to c.by_task-places.result.now
    c.by_task-places.ensures)

pub returns-clause-done : goal.returns-clause-done
returns-clause-done c =
    rw (c.max.ensures, c.min.ensures, c.reach_at.ensures, c.rows-rows.ensures.value)
    (task_done c.args.trace.now.rows c.args.task c.args.from c.args.to c.by_task-places.result.now c.by_task-places.ensures c.requires.ordered)
