use Rattle.std.proofs.Common.{arith, ◌∙◌}
use Rattle.run_tree.proofs.TaskEnds.{end_before, end_after, task_end_is}
use Rattle.release_calendar.proofs.TaskTurns.{period_later}
use Rattle.release_calendar.proofs.next_ends.period_end.Goals as goal

pub returns-then-at-task : goal.returns-then-at-task
returns-then-at-task c = task_end_is c.args.task.now c.args.at c.args.task.now.offset c.requires.lawful (end_before c.args.task.now c.args.at c.if-at-task.true)

pub returns-else-at-task : goal.returns-else-at-task
returns-else-at-task c =
    let work = c.requires.lawful.some_work in
    let fits = c.requires.lawful.work_fits in
    period_later c.args.task.now c.args.at c.if-at-task.false c.requires.begins
    ∙ task_end_is c.args.task.now c.args.at _ c.requires.lawful (end_after c.args.task.now c.args.at (omega (arith, work, fits)) c.if-at-task.false)
