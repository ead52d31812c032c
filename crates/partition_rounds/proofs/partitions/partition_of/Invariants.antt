use Rattle.std.proofs.Common.{◌≡◌, length}
use Rattle.partition_rounds.proofs.PartitionLemmas.{AreFirst}
use Rattle.partition_rounds.proofs.partitions.partition_of.Given as goal

abbrev pub invariant-loop-own : goal.invariant-loop-own
invariant-loop-own l = record {
  can : (goal.iterator-loop-own).can_next l.own-iterator;
  finite : (goal.iterator-loop-own).is_finite l.own-iterator;
  long : length l.lanes.items ≡ length l.yielded;
  first : AreFirst l.plan l.lanes.items;
}
