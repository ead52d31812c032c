use Rattle.std.proofs.Common.{arith}
use Rattle.run_tree.proofs.TaskEnds.{end_before, end_after, task_end_is}
use Rattle.run_tree.proofs.boundaries.task_end.Goals as goal

pub returns-then-after-task : goal.returns-then-after-task
returns-then-after-task c = task_end_is c.args.task.now c.args.after c.args.task.now.offset c.requires.lawful (end_before c.args.task.now c.args.after
    c.if-after-task.true)

pub returns-else-after-task : goal.returns-else-after-task
returns-else-after-task c = task_end_is c.args.task.now c.args.after _ c.requires.lawful (end_after c.args.task.now c.args.after (omega arith)
    c.if-after-task.false)
