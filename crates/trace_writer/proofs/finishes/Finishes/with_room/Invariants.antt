use Rattle.std.proofs.Common.{◌≡◌, length, map, take}
use Rattle.trace_format.specs.Finishes.{ended_count}
use Rattle.trace_writer.proofs.finishes.Finishes.with_room.Given as goal

abbrev pub invariant-loop-task : goal.invariant-loop-task
invariant-loop-task l = map length l.tasks.items ≡ map (ended_count l.set) (take l.task-index l.set.tasks)
