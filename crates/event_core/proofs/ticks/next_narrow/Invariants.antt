use Rattle.std.proofs.Common.{◌*◌, ◌/◌, ◌-◌, ◌≤◌}
use Rattle.event_core.proofs.TickLemmas.{AreSkipped}
use Rattle.event_core.proofs.ticks.next_narrow.Given as goal

abbrev pub invariant-early : goal.invariant-early
invariant-early l = (l.from / 8 ≤ l.block) × (l.block ≤ l.blocks) × AreSkipped l.ticks l.now l.from (l.block * 8)

abbrev pub decreases-early : goal.decreases-early
decreases-early l = l.blocks - l.block
