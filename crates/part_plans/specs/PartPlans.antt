-- The parts into which a plan falls, each with a plan of its own.
use Rattle.std.specs.Prelude.{ℕ, ◌<◌, ◌≡◌, List, length, Some, slice_get, slice_index, slice_index_or}
use Rattle.sched_base.specs.declared.rows.Leaf.TheVariants.{Empty}
use Rattle.run_tree.specs.Plans.{PlanContents}
use Rattle.run_tree.specs.Schedule.{packs_at}
use Rattle.run_tree.specs.Tree.{IsLeaf, leaf}
use Rattle.partition_laws.specs.Partitions.{first_pack}
use Rattle.partition_laws.specs.Parts.{IsPartPlan}
use Rattle.part_plans.specs.declared.parts.PartPlan.{PartPlan}
use Rattle.part_plans.specs.declared.parts.PartPlans.{PartPlans}

-- the node of the whole plan whose like is node x of a part
abbrev pub onto_of : PartPlan → ℕ → ℕ
onto_of found x = slice_index found.onto.items x

-- this is the plan of a part, with what its leaves show, and the packs of level 0 that are the likes of its own
pub record IsPartPlanOf (whole : PlanContents) (found : PartPlan) : Type 0 where
  pub part : IsPartPlan whole found.plan (onto_of found) found.factor
  pub onto_long : length found.onto.items ≡ length found.plan.tree.nodes
  pub leaves_long : length found.leaves.items ≡ length found.plan.tree.nodes
  pub leaves : (x : ℕ) → IsLeaf found.plan.tree x → slice_index_or found.leaves.items x Empty ≡ leaf whole.tree (onto_of found x)
  pub packs_long : length found.packs.items ≡ length (packs_at found.plan.tree 0)
  pub packs_within : (k : ℕ) → k < length (packs_at found.plan.tree 0) → slice_index found.packs.items k < length (packs_at whole.tree 0)
  pub packs : (k : ℕ) → k < length (packs_at found.plan.tree 0) →
      first_pack whole.tree (slice_index found.packs.items k) ≡ onto_of found (first_pack found.plan.tree k)

-- these are plans of parts
abbrev pub ArePartPlans : PlanContents → List PartPlan → Type 0
ArePartPlans whole parts = (c : ℕ) (p : PartPlan) → slice_get parts c ≡ Some p → IsPartPlanOf whole p

-- the plan falls into these parts: each node stands in one
pub record ArePartPlansOf (whole : PlanContents) (found : PartPlans) : Type 0 where
  pub each : ArePartPlans whole found.parts.items
  pub part_long : length found.part.items ≡ length whole.tree.nodes
  pub like_long : length found.like.items ≡ length whole.tree.nodes
  pub within : (x : ℕ) → x < length whole.tree.nodes → slice_index found.part.items x < length found.parts.items
  pub known : (x : ℕ) (p : PartPlan) → x < length whole.tree.nodes → slice_get found.parts.items (slice_index found.part.items x) ≡ Some p →
      slice_index found.like.items x < length p.plan.tree.nodes
  pub likes : (x : ℕ) (p : PartPlan) → x < length whole.tree.nodes → slice_get found.parts.items (slice_index found.part.items x) ≡ Some p →
      onto_of p (slice_index found.like.items x) ≡ x
