use Rattle.std.proofs.Common.{◌-◌, ◌≤◌, length, take}
use Rattle.std.specs.List.{enumerate_from, flat_map}
use Rattle.std.specs.Io.KnownBytes.{Appends}
use Rattle.trace_writer.specs.Parts.{line_of_met}
use Rattle.trace_writer.proofs.mets.write_mets_of_task.Given as goal

abbrev pub invariant-loop-next : goal.invariant-loop-next
invariant-loop-next g l =
    Appends (g.W.Sink.taken l.fn.sink) (g.W.Sink.taken l.sink) (flat_map (line_of_met l.name) (take l.next (enumerate_from 0 l.ends)))
    × (g.W.Sink.faults l.fn.sink ≤ g.W.Sink.faults l.sink)
    × (l.next ≤ length l.ends)

abbrev pub decreases-loop-next : goal.decreases-loop-next
decreases-loop-next g l = length l.ends - l.next
