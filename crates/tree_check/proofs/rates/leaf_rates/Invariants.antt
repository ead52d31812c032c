use Rattle.std.proofs.Common.{◌≡◌, map, take}
use Rattle.sched_base.specs.Scale.{rate_of}
use Rattle.tree_check.proofs.rates.leaf_rates.Given as goal

abbrev pub invariant-loop-task : goal.invariant-loop-task
invariant-loop-task l = l.rates.items ≡ map (rate_of l.scale) (take l.task-index l.task-items)
