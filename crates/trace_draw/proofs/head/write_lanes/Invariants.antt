use Rattle.std.proofs.Common.{◌≤◌}
use Rattle.std.specs.List.{flat_map, concat, range_with_len}
use Rattle.std.specs.Io.KnownBytes.{Appends}
use Rattle.trace_draw.proofs.Parts.{lane_lines}
use Rattle.trace_draw.proofs.head.write_lanes.Given as goal

abbrev pub invariant-loop-processor : goal.invariant-loop-processor
invariant-loop-processor g l =
    Appends (g.W.Sink.taken l.fn.sink) (g.W.Sink.taken l.sink) (flat_map (λ p. concat (lane_lines p)) (range_with_len 0 l.processor))
    × (g.W.Sink.faults l.fn.sink ≤ g.W.Sink.faults l.sink)
