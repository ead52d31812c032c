use Rattle.std.proofs.Common.{length}
use Rattle.sched_base.specs.Tables.{lane_of}
use Rattle.trace_writer.proofs.NotedLemmas.{HasNoted}
use Rattle.trace_writer.proofs.noting.note_lane.Given as goal

abbrev pub invariant-loop-row : goal.invariant-loop-row
invariant-loop-row g l = HasNoted l.scale l.set (lane_of (g.R.ShownRows.lanes l.rows) l.p) (g.R.ShownRows.left l.rows l.p l.place) l.fn.finishes l.finishes

abbrev pub decreases-loop-row : goal.decreases-loop-row
decreases-loop-row g l = length (g.R.ShownRows.left l.rows l.p l.place)
