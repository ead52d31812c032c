use Rattle.std.proofs.Common.{◌≡◌, ◌+◌, ◌≤◌, drop, filter, length}
use Rattle.trace_draw.specs.ShownUnits.{reaches}
use Rattle.trace_draw.proofs.shown_units.ShownUnits.count_reaching.Given as goal

abbrev pub invariant-loop-row : goal.invariant-loop-row
invariant-loop-row l =
    (l.count + length (filter (reaches l.self) (drop l.row-index l.rows)) ≡ length (filter (reaches l.self) l.rows))
    × (l.count ≤ l.row-index)
