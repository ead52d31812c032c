use Rattle.std.proofs.Common.{◌≤◌}
use Rattle.std.specs.List.{flat_map, range_with_len}
use Rattle.std.specs.Io.KnownBytes.{Appends}
use Rattle.sched_base.specs.Tables.{lane_of}
use Rattle.table_text.specs.Table.{lane_text}
use Rattle.table_text.proofs.lanes.write_lanes.Given as goal

abbrev pub invariant-loop-p : goal.invariant-loop-p
invariant-loop-p g l =
    Appends (g.W.Sink.taken l.fn.sink) (g.W.Sink.taken l.sink) (flat_map (λ p. lane_text l.step p (lane_of l.rows.lanes p)) (range_with_len 0 l.p))
    × (g.W.Sink.faults l.fn.sink ≤ g.W.Sink.faults l.sink)
