use Rattle.std.proofs.Common.{◌≡◌, ◌<◌, ◌≤◌, ℕ, get_or, length}
use Rattle.sched_base.specs.declared.rows.Leaf.TheVariants.{Empty}
use Rattle.round_looks.specs.Looks.{shown_for}
use Rattle.merged_rounds.proofs.changed.shown_leaves.Given as goal

abbrev pub invariant-loop-n : goal.invariant-loop-n
invariant-loop-n l = record {
  long : length l.leaves.items ≡ l.n;
  each : (k t : ℕ) → k < l.n → l.start ≤ t → shown_for l.plan k t ≡ get_or l.leaves.items k Empty;
}
