use Rattle.std.proofs.Common.{◌-◌, ◌≤◌}
use Rattle.event_core.specs.Ticks.{AreInBlocks}
use Rattle.event_core.proofs.TickLemmas.{IsFirstBelow}
use Rattle.event_core.proofs.ticks.first_narrow.Given as goal

abbrev pub invariant-early : goal.invariant-early
invariant-early l = AreInBlocks l.least l.ticks l.used × IsFirstBelow l.ticks l.most l.block l.first × (l.block ≤ l.blocks)

abbrev pub decreases-early : goal.decreases-early
decreases-early l = l.blocks - l.block
