use Rattle.std.proofs.Common.{◌≡◌, max, drop}
use Rattle.trace_check.specs.Reaches.{reach_rows}
use Rattle.trace_check.proofs.reaches.reach_by_rows.Given as goal

abbrev pub invariant-loop-i : goal.invariant-loop-i
invariant-loop-i l = max l.reach (reach_rows (drop l.i l.rows) l.task l.tick) ≡ reach_rows l.rows l.task l.tick
