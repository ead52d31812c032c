use Rattle.std.proofs.Common.{◌≤◌}
use Rattle.std.specs.List.{flat_map, range_with_len}
use Rattle.std.specs.Io.KnownBytes.{Appends}
use Rattle.tree_text.specs.Text.{level_text}
use Rattle.tree_text.proofs.text.write_levels.Given as goal

abbrev pub invariant-loop-level : goal.invariant-loop-level
invariant-loop-level g l =
    Appends (g.W.Sink.taken l.fn.sink) (g.W.Sink.taken l.sink) (flat_map (level_text l.plan) (range_with_len 0 l.level))
    × (g.W.Sink.faults l.fn.sink ≤ g.W.Sink.faults l.sink)
