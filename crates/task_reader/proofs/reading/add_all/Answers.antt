use Rattle.std.proofs.Common.{subst}
use Rattle.std.specs.List.{AllByRecursion}
use Rattle.sched_base.specs.Sets.{IsLawfulTask, NamesDiffer}
use Rattle.task_reader.proofs.LimitsLemmas.{lawful_at, free_at, tasks_around}
use Rattle.task_reader.proofs.reading.add_all.Goals as goal

pub add-requires-clause-lawful : goal.add-requires-clause-lawful
add-requires-clause-lawful c =
    let around = tasks_around c.args.tasks.now c.loop-task.task-index c.task-item.result c.loop-task-test.true c.task-item.is in
    lawful_at _ _ _ (subst (AllByRecursion IsLawfulTask) around c.requires.each)

pub add-requires-clause-free : goal.add-requires-clause-free
add-requires-clause-free c =
    let around = tasks_around c.args.tasks.now c.loop-task.task-index c.task-item.result c.loop-task-test.true c.task-item.is in
    rw c.loop-task.invariant (free_at _ _ _ (subst NamesDiffer around c.requires.names_differ))
