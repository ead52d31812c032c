use Rattle.std.proofs.Common.{◌≤◌, take}
use Rattle.std.specs.List.{concat}
use Rattle.std.specs.Io.KnownBytes.{Appends}
use Rattle.sched_edges.proofs.write.write_lines.Given as goal

abbrev pub invariant-loop-line : goal.invariant-loop-line
invariant-loop-line g l =
    Appends (g.W.Sink.taken l.fn.sink) (g.W.Sink.taken l.sink) (concat (take l.line-index l.lines))
    × (g.W.Sink.faults l.fn.sink ≤ g.W.Sink.faults l.sink)
