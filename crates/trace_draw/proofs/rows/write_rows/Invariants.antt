use Rattle.std.proofs.Common.{◌≤◌, ◌≡◌, min, take, filter, length}
use Rattle.std.specs.List.{flat_map}
use Rattle.std.specs.Io.KnownBytes.{Appends}
use Rattle.trace_draw.specs.ShownUnits.{most_drawn, reaches}
use Rattle.trace_draw.proofs.rows.write_rows.Given as goal
use Rattle.trace_draw.proofs.Parts.{drawn_rows, row_text}

abbrev pub invariant-loop-row : goal.invariant-loop-row
invariant-loop-row g l =
    Appends (g.W.Sink.taken l.fn.sink) (g.W.Sink.taken l.sink) (flat_map (row_text l.part l.set l.window) (take l.drawn (drawn_rows l.window l.rows)))
    × (l.drawn ≡ min most_drawn (length (filter (reaches l.window) (take l.row-index l.rows)))) × (g.W.Sink.faults l.fn.sink ≤ g.W.Sink.faults l.sink)
