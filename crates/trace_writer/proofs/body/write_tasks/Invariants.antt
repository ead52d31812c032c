use Rattle.std.proofs.Common.{◌≤◌, take}
use Rattle.std.specs.List.{flat_map}
use Rattle.std.specs.Io.KnownBytes.{Appends}
use Rattle.trace_format.specs.Lines.{task_line}
use Rattle.trace_writer.proofs.body.write_tasks.Given as goal

abbrev pub invariant-loop-task : goal.invariant-loop-task
invariant-loop-task g l =
    Appends (g.W.Sink.taken l.fn.sink) (g.W.Sink.taken l.sink) (flat_map (task_line l.version) (take l.task-index l.task-items))
    × (g.W.Sink.faults l.fn.sink ≤ g.W.Sink.faults l.sink)
