use Rattle.std.proofs.Common.{◌≡◌, map, take}
use Rattle.trace_verdict.specs.ShortWalks.{wide_of}
use Rattle.trace_verdict.proofs.timed.wide_walks.Given as goal

abbrev pub invariant-loop-walk : goal.invariant-loop-walk
invariant-loop-walk l = l.all.items ≡ map wide_of (take l.walk-index l.walks)
