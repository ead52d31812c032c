use Rattle.std.proofs.Common.{◌≡◌}
use Rattle.run_tree.specs.Plans.{stop_of}
use Rattle.partition_rounds.proofs.PartitionLemmas.{AreMoved}
use Rattle.partition_rounds.proofs.partitions.Partition.go_telling.Given as goal

abbrev pub invariant-loop-q : goal.invariant-loop-q
invariant-loop-q l = record {
  tick : l.now ≡ l.fn.self.tick;
  moved : AreMoved l.plan l.fn.self.tick l.q (record { lanes = l.fn.self.lanes.items; told = l.fn.told; leaves = l.fn.leaves; count = 0; end = stop_of l.plan })
      (record { lanes = l.self.lanes.items; told = l.told; leaves = l.leaves; count = l.count; end = l.end });
}
