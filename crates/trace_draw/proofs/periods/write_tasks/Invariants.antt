use Rattle.std.proofs.Common.{◌≤◌}
use Rattle.std.specs.List.{flat_map, range_with_len}
use Rattle.std.specs.Io.KnownBytes.{Appends}
use Rattle.trace_draw.specs.Periods.{task_text}
use Rattle.trace_draw.proofs.periods.write_tasks.Given as goal

abbrev pub invariant-loop-task : goal.invariant-loop-task
invariant-loop-task g l =
    Appends (g.W.Sink.taken l.fn.sink) (g.W.Sink.taken l.sink) (flat_map (task_text l.scene.trace.now l.scene.window.now l.scene.verdict)
    (range_with_len 0 l.task))
    × (g.W.Sink.faults l.fn.sink ≤ g.W.Sink.faults l.sink)
