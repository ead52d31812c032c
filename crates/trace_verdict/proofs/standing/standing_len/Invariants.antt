use Rattle.std.proofs.Common.{◌≡◌, ◌++◌, List, None, take}
use Rattle.sched_base.specs.declared.rows.Row.{Row}
use Rattle.trace_verdict.specs.Standing.{stand}
use Rattle.trace_verdict.proofs.standing.standing_len.Given as goal

abbrev pub invariant-loop-i : goal.invariant-loop-i
invariant-loop-i l = (rest : List Row) → stand None (take l.i l.rows ++ rest) ≡ stand l.last rest
