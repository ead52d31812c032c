-- Nodes of the whole plan that stand in the parts that are found.
use Rattle.std.specs.Prelude.{ℕ, ◌<◌, ◌≡◌, List, Some, length, slice_get, slice_index}
use Rattle.part_plans.specs.PartPlans.{onto_of}
use Rattle.part_plans.specs.declared.parts.PartPlan.{PartPlan}

-- node n is the like of this node of this part
pub record IsCovered (parts : List PartPlan) (part like n : ℕ) : Type 0 where
  pub within : part < length parts
  pub known : (p : PartPlan) → slice_get parts part ≡ Some p → like < length p.plan.tree.nodes
  pub is_like : (p : PartPlan) → slice_get parts part ≡ Some p → onto_of p like ≡ n

-- each node of the whole plan is the like of the node that is noted of the part that is noted
abbrev pub AreCovered : List PartPlan → List ℕ → List ℕ → Type 0
AreCovered parts part like = (n : ℕ) → n < length part → IsCovered parts (slice_index part n) (slice_index like n) n
