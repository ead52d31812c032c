use Rattle.std.proofs.Common.{◌+◌, ◌≤◌}
use Rattle.std.specs.List.{flat_map, range_with_len}
use Rattle.std.specs.Io.KnownBytes.{Appends}
use Rattle.sched_base.specs.Sets.{task_at}
use Rattle.trace_draw.specs.Periods.{period_text, first_shown}
use Rattle.trace_draw.proofs.periods.write_marks.Given as goal

abbrev pub invariant-loop-i : goal.invariant-loop-i
invariant-loop-i g l =
    Appends (g.W.Sink.taken l.fn.sink) (g.W.Sink.taken l.sink)
    (flat_map (λ i. period_text l.scene.trace.now l.scene.window.now l.task (first_shown l.scene.window.now (task_at l.scene.trace.now.set.tasks l.task)
    + i)) (range_with_len 0 l.i))
    × (g.W.Sink.faults l.fn.sink ≤ g.W.Sink.faults l.sink)
