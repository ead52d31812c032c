use Rattle.std.proofs.Common.{◌≤◌, arith, sym, ◌∙◌}
use Rattle.run_tree.proofs.TaskEnds.{end_after, task_end_is}
use Rattle.release_calendar.proofs.TaskTurns.{period_later}
use Rattle.release_calendar.proofs.steps.period_step.Goals as goal

pub returns-else-task-gt0 : goal.returns-else-task-gt0
returns-else-task-gt0 c = λ some u on.
    let none = c.if-task-gt0.false in
    let from : c.args.task.now.offset ≤ u = omega (arith, none) in
    sym (period_later c.args.task.now u from on ∙ task_end_is c.args.task.now u _ c.requires.lawful (end_after c.args.task.now u some from))
