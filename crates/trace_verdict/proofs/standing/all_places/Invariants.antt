use Rattle.std.proofs.Common.{◌≡◌, take}
use Rattle.trace_verdict.specs.Orders.{processor_key, entries_from, places}
use Rattle.trace_verdict.proofs.standing.all_places.Given as goal

abbrev pub invariant-loop-i : goal.invariant-loop-i
invariant-loop-i l = l.places.items ≡ places (entries_from processor_key 0 (take l.i l.rows))
