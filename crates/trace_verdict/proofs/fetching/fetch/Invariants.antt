use Rattle.std.proofs.Common.{◌≡◌, take, map}
use Rattle.trace_verdict.specs.Faults.{row_at}
use Rattle.trace_verdict.proofs.fetching.fetch.Given as goal

abbrev pub invariant-loop-i : goal.invariant-loop-i
invariant-loop-i l = take l.i l.part ≡ map (row_at l.rows) (take l.i l.places)
