use Rattle.std.proofs.Common.{◌≡◌, take, map}
use Rattle.trace_verdict.proofs.orders.places_of.Given as goal

abbrev pub invariant-loop-entry : goal.invariant-loop-entry
invariant-loop-entry l = l.places.items ≡ map (λ e. e.place) (take l.entry-index l.entries)
