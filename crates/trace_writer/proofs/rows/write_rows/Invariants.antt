use Rattle.std.proofs.Common.{◌≤◌, ◌≡◌, length, take}
use Rattle.std.specs.List.{flat_map}
use Rattle.std.specs.Io.KnownBytes.{Appends}
use Rattle.sched_base.specs.Tables.{all_rows}
use Rattle.trace_format.specs.Lines.{row_line}
use Rattle.trace_writer.proofs.rows.write_rows.Given as goal

abbrev pub invariant-loop-p : goal.invariant-loop-p
invariant-loop-p g l =
    Appends (g.W.Sink.taken l.fn.sink) (g.W.Sink.taken l.sink) (flat_map (flat_map (row_line l.set.tasks)) (take l.p (g.R.ShownRows.lanes l.rows)))
    × (g.W.Sink.faults l.fn.sink ≤ g.W.Sink.faults l.sink)
    × (l.count ≡ length (all_rows (take l.p (g.R.ShownRows.lanes l.rows))))
