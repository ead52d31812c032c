-- The own plans of the packs of a partitioned plan, each with what its members show.
use Rattle.std.specs.Prelude.{ℕ, ◌*◌, ◌<◌, ◌≡◌, List, length, Some, slice_get, slice_index_or}
use Rattle.sched_base.specs.declared.rows.Leaf.TheVariants.{Empty}
use Rattle.run_tree.specs.Plans.{PlanContents}
use Rattle.run_tree.specs.Schedule.{packs_at}
use Rattle.run_tree.specs.Tree.{leaf, member, members, rate}
use Rattle.partition_laws.specs.Partitions.{AreAlike, IsOwnPlan, IsPartitioned, member_count, member_of}
use Rattle.own_plans.specs.declared.owns.OwnPlan.{OwnPlan}

-- the members of pack p of one plan are like those of pack q of another in turn, and have `factor` times their rates
pub record AreMembersAlike (whole own : PlanContents) (p q factor : ℕ) : Type 0 where
  pub same : length (members own.tree q) ≡ length (members whole.tree p)
  pub rates : (k : ℕ) → k < length (members own.tree q) → rate whole.tree (member whole.tree p k) ≡ factor * rate own.tree (member own.tree q k)
  pub alike : (k : ℕ) → k < length (members own.tree q) →
      AreAlike whole.set.tasks own.set.tasks (leaf whole.tree (member whole.tree p k)) (leaf own.tree (member own.tree q k))

-- this is the own plan of pack i, and what its members show
pub record IsOwnPlanOf (whole : PlanContents) (i : ℕ) (found : OwnPlan) : Type 0 where
  pub own : IsOwnPlan whole found.plan i found.factor
  pub long : length found.leaves.items ≡ length found.plan.tree.nodes
  pub leaves : (k : ℕ) → k < member_count found.plan.tree 0 →
      slice_index_or found.leaves.items (member_of found.plan.tree 0 k) Empty ≡ leaf whole.tree (member_of whole.tree i k)

-- these are the own plans of all packs, and every pack is a root
pub record AreOwnPlansOf (whole : PlanContents) (owns : List OwnPlan) : Type 0 where
  pub partitioned : IsPartitioned whole.tree
  pub many : length owns ≡ length (packs_at whole.tree 0)
  pub each : (i : ℕ) (own : OwnPlan) → slice_get owns i ≡ Some own → IsOwnPlanOf whole i own
