use Rattle.std.proofs.Common.{◌≤◌}
use Rattle.std.specs.List.{flat_map, range_with_len}
use Rattle.std.specs.Io.KnownBytes.{Appends}
use Rattle.trace_draw.specs.Head.{axis_step}
use Rattle.trace_draw.proofs.Parts.{mark_of}
use Rattle.trace_draw.proofs.head.write_axis.Given as goal

abbrev pub invariant-loop-i : goal.invariant-loop-i
invariant-loop-i g l =
    Appends (g.W.Sink.taken l.fn.sink) (g.W.Sink.taken l.sink) (flat_map (mark_of l.set l.window (axis_step l.window.units)) (range_with_len 0 l.i))
    × (g.W.Sink.faults l.fn.sink ≤ g.W.Sink.faults l.sink)
