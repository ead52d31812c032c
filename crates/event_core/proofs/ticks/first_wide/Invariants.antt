use Rattle.std.proofs.Common.{◌≡◌, ◌⊎◌, ℕ, ◌<◌, ◌≤◌, length}
use Rattle.std.specs.Prelude.{slice_index}
use Rattle.event_core.proofs.ticks.first_wide.Given as goal

abbrev pub invariant-loop-k : goal.invariant-loop-k
invariant-loop-k l = (l.first ≤ l.most) × ((j : ℕ) → j < l.k → l.first ≤ slice_index l.ticks j) × ((l.first ≡ l.most) ⊎ ((j : ℕ) × (j < length l.ticks)
    × (l.first ≡ slice_index l.ticks j)))
