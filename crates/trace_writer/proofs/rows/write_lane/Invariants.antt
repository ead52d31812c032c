use Rattle.std.proofs.Common.{◌≤◌, length}
use Rattle.sched_base.specs.Tables.{lane_of}
use Rattle.row_totals.specs.Sums.{NamesAmong}
use Rattle.trace_writer.proofs.LaneLemmas.{Written}
use Rattle.trace_writer.proofs.rows.write_lane.Given as goal

abbrev pub invariant-pages : goal.invariant-pages
invariant-pages g l =
    Written l.set.tasks (g.W.Sink.taken l.fn.sink) (g.W.Sink.taken l.sink) (lane_of (g.R.ShownRows.lanes l.rows) l.p) (g.R.ShownRows.left l.rows l.p
    l.place) l.count
    × (g.W.Sink.faults l.fn.sink ≤ g.W.Sink.faults l.sink)
    × NamesAmong (length l.set.tasks) (g.R.ShownRows.left l.rows l.p l.place)

abbrev pub decreases-pages : goal.decreases-pages
decreases-pages g l = length (g.R.ShownRows.left l.rows l.p l.place)
