use Rattle.std.proofs.Common.{◌≤◌, take}
use Rattle.std.specs.List.{flat_map}
use Rattle.std.specs.Io.KnownBytes.{Appends}
use Rattle.sched_base.specs.Tables.{lane_of}
use Rattle.table_text.specs.Lines.{row_line}
use Rattle.table_text.proofs.lanes.write_rows.Given as goal

abbrev pub invariant-loop-i : goal.invariant-loop-i
invariant-loop-i g l =
    Appends (g.W.Sink.taken l.fn.sink) (g.W.Sink.taken l.sink) (flat_map (row_line l.step) (take l.i (lane_of l.rows.lanes l.p)))
    × (g.W.Sink.faults l.fn.sink ≤ g.W.Sink.faults l.sink)
