use Rattle.std.proofs.Common.{◌≡◌, ◌≤◌, ◌++◌, take}
use Rattle.std.specs.List.{enumerate_from, flat_map}
use Rattle.trace_writer.specs.Parts.{line_of_met}
use Rattle.trace_writer.proofs.mets.fill.Given as goal

abbrev pub invariant-loop-k : goal.invariant-loop-k
invariant-loop-k l =
    (flat_map (line_of_met l.name) (take l.k (enumerate_from 0 l.ends)) ≡ flat_map (line_of_met l.name) (take l.first (enumerate_from 0 l.ends)) ++ l.page)
    × (l.first ≤ l.k)
