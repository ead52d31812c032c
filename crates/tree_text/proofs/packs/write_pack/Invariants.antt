use Rattle.std.proofs.Common.{◌≤◌, take}
use Rattle.tree_text.specs.Pieces.{Added}
use Rattle.tree_text.proofs.PieceLemmas.{pack_start, spaced_words}
use Rattle.tree_text.proofs.packs.write_pack.Given as goal

abbrev pub invariant-loop-member : goal.invariant-loop-member
invariant-loop-member g l =
    Added (g.W.Sink.taken l.fn.sink) (g.W.Sink.taken l.sink) (pack_start l.plan l.fn.pack.0) (spaced_words l.plan (take l.member-index l.member-items)) l.line
    × (g.W.Sink.faults l.fn.sink ≤ g.W.Sink.faults l.sink)
