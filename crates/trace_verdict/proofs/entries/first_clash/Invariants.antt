use Rattle.std.proofs.Common.{◌≡◌, None, ◌-◌, ◌<◌, ◌≤◌, true, false}
use Rattle.trace_verdict.specs.Overlaps.{walk}
use Rattle.trace_verdict.proofs.entries.first_clash.Given as goal

abbrev pub invariant-loop-high : goal.invariant-loop-high
invariant-loop-high l = (l.low < l.high) × (l.high ≤ l.count) × (walk l.low None l.entries ≡ true) × (walk l.high None l.entries ≡ false)

abbrev pub decreases-loop-high : goal.decreases-loop-high
decreases-loop-high l = l.high - l.low
