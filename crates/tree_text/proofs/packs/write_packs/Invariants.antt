use Rattle.std.proofs.Common.{◌≤◌, take}
use Rattle.std.specs.List.{flat_map}
use Rattle.std.specs.Io.KnownBytes.{Appends}
use Rattle.run_tree.specs.Schedule.{packs_at}
use Rattle.tree_text.specs.Text.{pack_line}
use Rattle.tree_text.proofs.packs.write_packs.Given as goal

abbrev pub invariant-loop-i : goal.invariant-loop-i
invariant-loop-i g l =
    Appends (g.W.Sink.taken l.fn.sink) (g.W.Sink.taken l.sink) (flat_map (pack_line l.plan) (take l.i (packs_at l.plan.tree l.level)))
    × (g.W.Sink.faults l.fn.sink ≤ g.W.Sink.faults l.sink)
