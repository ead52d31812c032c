-- The rounds of a partitioned plan, merged while they go by.
use Rattle.std.specs.Prelude.{◌≡◌, ◌⊎◌, List, Option, length}
use Rattle.sched_base.specs.declared.rows.Leaf.{Leaf}
use Rattle.run_tree.specs.Plans.{PlanContents}
use Rattle.merged_rounds.specs.declared.sums.RoundSum.{RoundSum}
use Rattle.merged_rounds.specs.Laps.{IsSumUpTo}
use Rattle.part_rounds.specs.Merging.{IsShownUpTo}
use Rattle.partition_rounds.specs.declared.partitions.Partition.{Partition}
use Rattle.partition_rounds.specs.OwnRounds.{IsPartitionOf}

-- The rounds of a partitioned plan are merged up to its tick, and where one ended there, its leaves are known.
pub record IsMergingOf (p : PlanContents) (part : Partition) (leaves : List (Option Leaf)) (so_far : RoundSum) : Type 0 where
  pub belongs : IsPartitionOf p part
  pub sum : IsSumUpTo p part.tick so_far
  pub many : length leaves ≡ p.tree.processors
  pub gone : (part.tick ≡ 0) ⊎ IsShownUpTo p part.tick leaves so_far
