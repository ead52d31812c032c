use Rattle.std.proofs.Common.{ℕ, List, ◌≤◌, take}
use Rattle.std.specs.List.{flat_map, enumerate_from}
use Rattle.std.specs.Io.KnownBytes.{Appends}
use Rattle.sched_base.specs.declared.rows.Row.{Row}
use Rattle.trace_format.specs.Text.{mets_of_task}
use Rattle.trace_writer.specs.Finishes.{AreDoneBy}
use Rattle.trace_writer.specs.Parts.{text_of}
use Rattle.trace_writer.proofs.mets.write_mets.Given as goal

abbrev pub invariant-loop-j : goal.invariant-loop-j
invariant-loop-j g l =
    ((scale : ℕ) (rows : List Row) → AreDoneBy scale l.set.tasks rows l.finishes → Appends (g.W.Sink.taken l.fn.sink) (g.W.Sink.taken l.sink)
    (flat_map (λ p. text_of (mets_of_task scale l.set rows p)) (take l.j (enumerate_from 0 l.set.tasks))))
    × (g.W.Sink.faults l.fn.sink ≤ g.W.Sink.faults l.sink)
