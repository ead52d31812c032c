use Rattle.std.proofs.Common.{◌≡◌}
use Rattle.trace_check.specs.Tails.{mets_behind}
use Rattle.trace_check.proofs.met_lines.first_met.Given as goal

abbrev pub invariant-loop-j : goal.invariant-loop-j
invariant-loop-j l = mets_behind l.tail l.task ≡ mets_behind l.tail l.j
