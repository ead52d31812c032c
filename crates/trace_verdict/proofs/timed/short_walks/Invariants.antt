use Rattle.std.proofs.Common.{◌≡◌, map, take}
use Rattle.trace_verdict.specs.ShortWalks.{wide_of}
use Rattle.trace_verdict.proofs.timed.short_walks.Given as goal

abbrev pub invariant-loop-walk : goal.invariant-loop-walk
invariant-loop-walk l = map wide_of l.all.items ≡ take l.walk-index l.walks
