use Rattle.std.proofs.Common.{◌≡◌, ◌<◌, ◌≤◌, ◌-◌, length, true}
use Rattle.wrap_sched.specs.Wrapped.{is_point}
use Rattle.wrap_sched.proofs.MergedLemmas.{AreBefore}
use Rattle.wrap_sched.proofs.merged.merge_slices.Given as goal

abbrev pub invariant-slices : goal.invariant-slices
invariant-slices l = record {
  at : l.x < l.slices.set.now.horizon → is_point l.slices.set.now.tasks l.x ≡ true;
  within : l.x ≤ l.slices.set.now.horizon;
  before : AreBefore l.slices.set.now l.slices.scale (length l.slices.pattern.items) l.x l.merged;
}

abbrev pub decreases-slices : goal.decreases-slices
decreases-slices l = l.slices.set.now.horizon - l.x
