use Rattle.std.proofs.Common.{◌<◌, ◌≤◌, ◌≡◌, ◌-◌, get_or, length}
use Rattle.event_core.specs.Serving.{lists, IsDrying}
use Rattle.event_core.specs.Ticks.{ticks_by}
use Rattle.event_core.proofs.dried.run_dry.Given as goal

abbrev pub invariant-dried : goal.invariant-dried
invariant-dried l =
    IsDrying l.tree l.dues l.ends (lists l.ready l.serves (ticks_by l.number l.dry) l.stale l.runs) (λ q. get_or l.number q 0 < l.k)
    × (l.k ≤ l.used) × (length l.stale ≡ length l.fn.stale)

abbrev pub decreases-dried : goal.decreases-dried
decreases-dried l = l.used - l.k
