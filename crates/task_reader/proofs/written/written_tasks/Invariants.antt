use Rattle.std.proofs.Common.{◌≡◌, ◌++◌, drop}
use Rattle.toml.specs.View.{items_view}
use Rattle.task_reader.specs.Written.{written_tasks}
use Rattle.task_reader.proofs.written.written_tasks.Given as goal

abbrev pub invariant-loop-value : goal.invariant-loop-value
invariant-loop-value l = l.written.items ++ written_tasks (items_view (drop l.value-index l.tasks)) ≡ written_tasks (items_view l.tasks)
