use Rattle.std.proofs.Common.{◌≤◌, take}
use Rattle.std.specs.List.{flat_map, enumerate_from}
use Rattle.std.specs.Io.KnownBytes.{Appends}
use Rattle.trace_writer.proofs.TotalLemmas.{total_line}
use Rattle.trace_writer.proofs.body.write_totals.Given as goal

abbrev pub invariant-loop-i : goal.invariant-loop-i
invariant-loop-i g l =
    Appends (g.W.Sink.taken l.fn.sink) (g.W.Sink.taken l.sink) (flat_map (total_line l.totals) (take l.i (enumerate_from 0 l.set.tasks)))
    × (g.W.Sink.faults l.fn.sink ≤ g.W.Sink.faults l.sink)
