use Rattle.std.proofs.Common.{◌≡◌, map, take}
use Rattle.task_reader.specs.Written.{task_of}
use Rattle.task_reader.proofs.reading.add_all.Given as goal

abbrev pub invariant-loop-task : goal.invariant-loop-task
invariant-loop-task l = l.set ≡ record l.initial.set { tasks = map task_of (take l.task-index l.tasks) }
