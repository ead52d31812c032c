-- Nodes of a part's own plan that are like those of the whole plan that are noted in a list, by their numbers in the own plan.
use Rattle.std.specs.Prelude.{ℕ, ◌*◌, ◌<◌, ◌≡◌, List, length, option_map, slice_index}
use Rattle.run_tree.specs.Plans.{PlanContents}
use Rattle.run_tree.specs.Schedule.{packs_at}
use Rattle.run_tree.specs.Tree.{IsLeaf, IsMember, IsPack, Tree, dual, leaf, member, members, rate}
use Rattle.partition_laws.specs.Partitions.{AreAlike, first_pack}

-- pack q has the likes of the members of pack p in turn
pub record AreMembersLike (whole own : Tree) (onto : List ℕ) (q p : ℕ) : Type 0 where
  pub same : length (members whole q) ≡ length (members own p)
  pub each : (k : ℕ) → k < length (members own p) → member whole q k ≡ slice_index onto (member own p k)

-- the dual of pack q is the like of that of pack p
abbrev pub IsDualLike : Tree → Tree → List ℕ → ℕ → ℕ → Type 0
IsDualLike whole own onto q p = dual whole q ≡ option_map (λ x. slice_index onto x) (dual own p)

-- node q is a pack with the likes of the members and of the dual of pack p
pub record IsPackLike (whole own : Tree) (onto : List ℕ) (q p : ℕ) : Type 0 where
  pub pack : IsPack whole q
  pub members_like : AreMembersLike whole own onto q p
  pub dual_like : IsDualLike whole own onto q p

-- node n of the own plan is like the node that is noted for it, with `factor` times its rate
pub record IsNodeLike (whole own : PlanContents) (onto : List ℕ) (factor n : ℕ) : Type 0 where
  pub within : slice_index onto n < length whole.tree.nodes
  pub pack : IsPack own.tree n → IsPackLike whole.tree own.tree onto (slice_index onto n) n
  pub rates : IsMember own.tree n → rate whole.tree (slice_index onto n) ≡ factor * rate own.tree n
  pub alike : IsLeaf own.tree n → AreAlike whole.set.tasks own.set.tasks (leaf whole.tree (slice_index onto n)) (leaf own.tree n)

-- these packs of level 0 of the whole tree are the likes of those of the own one in turn
pub record ArePacksLike (whole own : Tree) (onto packs : List ℕ) : Type 0 where
  pub long : length packs ≡ length (packs_at own 0)
  pub each : (k : ℕ) → k < length (packs_at own 0) → first_pack whole (slice_index packs k) ≡ slice_index onto (first_pack own k)
