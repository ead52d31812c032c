use Rattle.std.proofs.Common.{map, take}
use Rattle.std.specs.List.{AllByRecursion}
use Rattle.trace_verdict.specs.Faults.{row_at}
use Rattle.trace_verdict.specs.Findings.{IsRowIn}
use Rattle.trace_verdict.specs.Supplied.{IsPlaceOf, entries_at, GoesPast}
use Rattle.trace_verdict.proofs.walks.Walk.steps.Given as goal

abbrev pub invariant-loop-i : goal.invariant-loop-i
invariant-loop-i l = AllByRecursion (IsPlaceOf l.rows l.task) (take l.i l.places)
    × GoesPast l.periods (entries_at l.rows l.task (take l.i l.places)) l.fn.self l.self
    × AllByRecursion (IsRowIn l.periods) (map (row_at l.rows) (take l.i l.places))
