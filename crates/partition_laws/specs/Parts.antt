-- Parts of a plan: nodes of its tree that no pack and no dual ties to others run what a plan of their own does that has the same tree of them alone.
use Rattle.std.specs.Prelude.{ℕ, ◌*◌, ◌<◌, ◌≤◌, ◌≡◌, length, option_map}
use Rattle.run_tree.specs.Plans.{PlanContents}
use Rattle.run_tree.specs.Tree.{IsLeaf, IsMember, IsPack, dual, leaf, member, members, rate}
use Rattle.partition_laws.specs.Partitions.{AreAlike}

-- Plan `own` has the tree of a part of plan `whole`: its node x is the like of node `onto x`. Packs have the likes as members in turn and as duals,
-- leaves have the same boundaries, and rates are `factor` times less, as each unit has `factor` times less ticks.
pub record IsPartPlan (whole own : PlanContents) (onto : ℕ → ℕ) (factor : ℕ) : Type 0 where
  pub some : 1 ≤ factor
  pub scale : whole.tree.scale ≡ factor * own.tree.scale
  pub horizon : whole.set.horizon ≡ own.set.horizon
  pub packs : (p : ℕ) → IsPack own.tree p → IsPack whole.tree (onto p)
  pub same : (p : ℕ) → IsPack own.tree p → length (members whole.tree (onto p)) ≡ length (members own.tree p)
  pub members_are : (p k : ℕ) → IsPack own.tree p → k < length (members own.tree p) → member whole.tree (onto p) k ≡ onto (member own.tree p k)
  pub duals_are : (p : ℕ) → IsPack own.tree p → dual whole.tree (onto p) ≡ option_map onto (dual own.tree p)
  pub alike : (x : ℕ) → IsLeaf own.tree x → AreAlike whole.set.tasks own.set.tasks (leaf whole.tree (onto x)) (leaf own.tree x)
  pub rates : (x : ℕ) → IsMember own.tree x → rate whole.tree (onto x) ≡ factor * rate own.tree x

-- Parts that a plan falls into: how many there are; of each its own plan, the nodes of the whole whose likes its nodes are, and the ticks of the
-- whole that a tick of it takes; of each node of the whole its part, and its like there.
pub record Parts : Type 0 where
  pub count : ℕ
  pub own : ℕ → PlanContents
  pub onto : ℕ → ℕ → ℕ
  pub factor : ℕ → ℕ
  pub part : ℕ → ℕ
  pub like : ℕ → ℕ

-- each part has its plan, and each node stands in a part
pub record AreParts (whole : PlanContents) (parts : Parts) : Type 0 where
  pub each : (c : ℕ) → c < parts.count → IsPartPlan whole (parts.own c) (parts.onto c) (parts.factor c)
  pub within : (x : ℕ) → x < length whole.tree.nodes → parts.part x < parts.count
  pub known : (x : ℕ) → x < length whole.tree.nodes → parts.like x < length (parts.own (parts.part x)).tree.nodes
  pub likes : (x : ℕ) → x < length whole.tree.nodes → parts.onto (parts.part x) (parts.like x) ≡ x
