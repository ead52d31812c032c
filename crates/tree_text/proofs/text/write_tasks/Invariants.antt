use Rattle.std.proofs.Common.{◌≤◌, take}
use Rattle.std.specs.List.{flat_map}
use Rattle.std.specs.Io.KnownBytes.{Appends}
use Rattle.tree_text.specs.Text.{task_line}
use Rattle.tree_text.proofs.text.write_tasks.Given as goal

abbrev pub invariant-loop-task : goal.invariant-loop-task
invariant-loop-task g l =
    Appends (g.W.Sink.taken l.fn.sink) (g.W.Sink.taken l.sink) (flat_map task_line (take l.task-index l.task-items))
    × (g.W.Sink.faults l.fn.sink ≤ g.W.Sink.faults l.sink)
