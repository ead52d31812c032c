use Rattle.std.proofs.Common.{◌≤◌}
use Rattle.std.specs.List.{flat_map, range_with_len}
use Rattle.std.specs.Io.KnownBytes.{Appends}
use Rattle.tree_text.specs.Text.{idle_line}
use Rattle.tree_text.proofs.idles.write_rates.Given as goal

abbrev pub invariant-loop-k : goal.invariant-loop-k
invariant-loop-k g l =
    Appends (g.W.Sink.taken l.fn.sink) (g.W.Sink.taken l.sink) (flat_map (idle_line l.tree) (range_with_len 0 l.k))
    × (g.W.Sink.faults l.fn.sink ≤ g.W.Sink.faults l.sink)
