use Rattle.std.proofs.Common.{◌≡◌}
use Rattle.event_core.specs.Serving.{AreBegun}
use Rattle.event_core.proofs.begun.begin_all.Given as goal

abbrev pub invariant-loop-k : goal.invariant-loop-k
invariant-loop-k l =
    (l.dues.tick ≡ l.fn.dues.tick) × (l.dues.runs ≡ l.fn.dues.runs)
    × AreBegun l.plan.tree l.calendar.begins l.calendar.ends l.calendar.begun l.fn.dues.remains l.fn.ready l.fn.stale l.dues.remains l.ready l.stale l.k
