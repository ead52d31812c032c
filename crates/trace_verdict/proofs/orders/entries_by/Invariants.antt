use Rattle.std.proofs.Common.{◌≡◌, take}
use Rattle.trace_verdict.specs.Orders.{key_by, entries_from}
use Rattle.trace_verdict.proofs.orders.entries_by.Given as goal

abbrev pub invariant-loop-i : goal.invariant-loop-i
invariant-loop-i l = l.entries.items ≡ entries_from (key_by l.by) 0 (take l.i l.rows)
