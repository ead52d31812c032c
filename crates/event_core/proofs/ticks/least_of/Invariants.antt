use Rattle.std.proofs.Common.{◌≡◌, ℕ, ◌<◌, ◌≤◌, length}
use Rattle.std.specs.Prelude.{slice_index}
use Rattle.event_core.proofs.ticks.least_of.Given as goal

abbrev pub invariant-loop-k : goal.invariant-loop-k
invariant-loop-k l = ((j : ℕ) → l.from ≤ j → j < l.k → l.first ≤ slice_index l.ticks j) × ((j : ℕ) × (j < length l.ticks) × (l.first ≡ slice_index l.ticks j))
