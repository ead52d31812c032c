use Rattle.std.proofs.Common.{ℕ, ◌≡◌, ◌<◌, get_or}
use Rattle.partition_laws.specs.Partitions.{first_pack}
use Rattle.part_plans.proofs.part_checks.are_packs_like.Given as goal

abbrev pub invariant-loop-k : goal.invariant-loop-k
invariant-loop-k l = (k : ℕ) → k < l.k → first_pack l.whole (get_or l.packs k 0) ≡ get_or l.onto (first_pack l.own k) 0
