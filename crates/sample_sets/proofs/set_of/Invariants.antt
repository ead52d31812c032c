use Rattle.std.proofs.Common.{◌≡◌}
use Rattle.sample_sets.proofs.set_of.Given as goal

abbrev pub invariant-loop-name : goal.invariant-loop-name
invariant-loop-name l = (l.set.processors ≡ l.processors) × (l.set.horizon ≡ l.horizon)
