use Rattle.std.proofs.Common.{◌≡◌, ◌-◌, ◌≤◌, ◌⊎◌, true}
use Rattle.trace_draw.specs.ShownUnits.{has_few, greatest_passing}
use Rattle.trace_draw.proofs.asking.most_shown.Given as goal

abbrev pub invariant-halving : goal.invariant-halving
invariant-halving l =
    (1 ≤ l.low) × (l.low ≤ l.high) × (l.high ≤ l.most)
    × ((l.low ≡ 1) ⊎ (has_few l.trace l.asked l.low ≡ true))
    × (greatest_passing (has_few l.trace l.asked) l.high ≡ greatest_passing (has_few l.trace l.asked) l.most)

abbrev pub decreases-halving : goal.decreases-halving
decreases-halving l = l.high - l.low
