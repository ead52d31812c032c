use Rattle.std.proofs.Common.{◌≡◌, None, drop}
use Rattle.trace_verdict.specs.Overlaps.{walk}
use Rattle.trace_verdict.proofs.entries.is_apart_below.Given as goal

abbrev pub invariant-loop-entry : goal.invariant-loop-entry
invariant-loop-entry l = walk l.limit None l.entries ≡ walk l.limit l.last (drop l.entry-index l.entries)
