use Rattle.std.proofs.Common.{ℕ, ◌≡◌, ◌<◌, length, get_or}
use Rattle.sched_base.specs.declared.rows.Leaf.TheVariants.{Empty}
use Rattle.run_tree.specs.Tree.{leaf}
use Rattle.part_plans.proofs.leaves.leaves_of.Given as goal

abbrev pub invariant-loop-x : goal.invariant-loop-x
invariant-loop-x l = (length l.leaves.items ≡ l.x) × ((x : ℕ) → x < l.x → get_or l.leaves.items x Empty ≡ leaf l.whole (get_or l.onto x 0))
