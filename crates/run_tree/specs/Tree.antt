-- Reduction trees: servers packed over leaves, their duals packed again, up to servers that run all the time.
use Rattle.std.specs.Prelude.{ℕ, suc, ◌+◌, ◌*◌, ◌<◌, ◌≤◌, ◌≡◌, ◌==◌, ◌&&◌, Bool, true, false, List, [], length, map}
use Rattle.std.specs.Prelude.{Option, Some, None, slice_index_or}
use Rattle.sched_base.specs.Counting.{sum_to, bit}
use Rattle.sched_base.specs.declared.rows.Leaf.{Leaf}
use Rattle.sched_base.specs.declared.rows.Leaf.TheVariants.{Empty}
use Rattle.sched_base.specs.declared.rows.NodeId.{NodeId}
use Rattle.run_tree.specs.declared.kinds.Kind.{Kind}
use Rattle.run_tree.specs.declared.kinds.Kind.TheVariants as kind

-- A node, known by its number in the list of nodes. A member (a leaf or a dual) names the pack that is its home, and its
-- place there. A pack names its members in order, and its dual where it has one. What a kind doesn't use is 0, [] or None.
pub record Node : Type 0 where
  pub kind : Kind
  pub rate : ℕ
  pub home : ℕ
  pub place : ℕ
  pub members : List ℕ
  pub dual : Option ℕ

-- the processors, the ticks of a unit, the levels, and the nodes by number
pub record Tree : Type 0 where
  pub processors : ℕ
  pub scale : ℕ
  pub levels : ℕ
  pub nodes : List Node

-- the numbers of these nodes
abbrev pub numbers : List NodeId → List ℕ
numbers ids = map (λ n. n.0) ids

-- stands where a tree has no such node, and is never looked at
abbrev pub no_node : Node
no_node = record { kind = kind.Pack 0; rate = 0; home = 0; place = 0; members = []; dual = None }

-- node n
abbrev pub node : Tree → ℕ → Node
node t n = slice_index_or t.nodes n no_node

-- ---- what a kind says

-- whether it is a leaf
abbrev pub is_leaf : Kind → Bool
is_leaf (kind.Leaf leaf) = true
is_leaf (kind.Pack level) = false
is_leaf (kind.Dual primal) = false

-- whether it is a pack
abbrev pub is_pack : Kind → Bool
is_pack (kind.Leaf leaf) = false
is_pack (kind.Pack level) = true
is_pack (kind.Dual primal) = false

-- whether it is a dual
abbrev pub is_dual : Kind → Bool
is_dual (kind.Leaf leaf) = false
is_dual (kind.Pack level) = false
is_dual (kind.Dual primal) = true

-- the leaf, where it is one
abbrev pub leaf_of : Kind → Leaf
leaf_of (kind.Leaf leaf) = leaf
leaf_of (kind.Pack level) = Empty
leaf_of (kind.Dual primal) = Empty

-- a pack's level
abbrev pub level_of : Kind → ℕ
level_of (kind.Leaf leaf) = 0
level_of (kind.Pack level) = level
level_of (kind.Dual primal) = 0

-- the pack of which a dual is the dual
abbrev pub primal_of : Kind → ℕ
primal_of (kind.Leaf leaf) = 0
primal_of (kind.Pack level) = 0
primal_of (kind.Dual primal) = primal.0

-- ---- nodes by number

-- what node n is
abbrev pub kind_at : Tree → ℕ → Kind
kind_at t n = (node t n).kind

-- the leaf that node n is; Empty of another node
abbrev pub leaf : Tree → ℕ → Leaf
leaf t n = leaf_of (kind_at t n)

-- the level of pack n; 0 of another node
abbrev pub level : Tree → ℕ → ℕ
level t n = level_of (kind_at t n)

-- the pack whose dual node n is
abbrev pub primal : Tree → ℕ → ℕ
primal t n = primal_of (kind_at t n)

-- the ticks that node n is given in each unit
abbrev pub rate : Tree → ℕ → ℕ
rate t n = (node t n).rate

-- the pack in which member n stands
abbrev pub home : Tree → ℕ → ℕ
home t n = (node t n).home

-- the place of member n in its pack
abbrev pub place : Tree → ℕ → ℕ
place t n = (node t n).place

-- the members of pack n, in order
abbrev pub members : Tree → ℕ → List ℕ
members t n = (node t n).members

-- member k of pack p
abbrev pub member : Tree → ℕ → ℕ → ℕ
member t p k = slice_index_or (members t p) k 0

-- the dual of pack n; a root has none
abbrev pub dual : Tree → ℕ → Option ℕ
dual t n = (node t n).dual

-- there is such a node, and it is a leaf
abbrev pub IsLeaf : Tree → ℕ → Type 0
IsLeaf t n = (n < length t.nodes) × (is_leaf (kind_at t n) ≡ true)

-- there is such a node, and it is a pack
abbrev pub IsPack : Tree → ℕ → Type 0
IsPack t n = (n < length t.nodes) × (is_pack (kind_at t n) ≡ true)

-- there is such a node, and it is a dual
abbrev pub IsDual : Tree → ℕ → Type 0
IsDual t n = (n < length t.nodes) × (is_dual (kind_at t n) ≡ true)

-- a leaf or a dual
abbrev pub IsMember : Tree → ℕ → Type 0
IsMember t n = (n < length t.nodes) × (is_pack (kind_at t n) ≡ false)

-- whether node n is a pack of level l
abbrev pub at_level : Tree → ℕ → ℕ → Bool
at_level t l n = is_pack (kind_at t n) && level t n == l

-- a reduction tree: leaves packed into servers within the scale, the duals of each level packed again, up to roots
pub record IsTree (t : Tree) : Type 0 where
  pub scaled : 0 < t.scale
  -- the leaves fill the processors
  pub total : sum_to (length t.nodes) (λ x. bit (is_leaf (kind_at t x)) * rate t x) ≡ t.processors * t.scale
  -- a pack has a level, members, and the sum of their rates, at most the scale
  pub leveled : (p : ℕ) → IsPack t p → level t p < t.levels
  pub filled : (p : ℕ) → IsPack t p → 0 < length (members t p)
  pub summed : (p : ℕ) → IsPack t p → sum_to (length (members t p)) (λ k. rate t (member t p k)) ≡ rate t p
  pub within : (p : ℕ) → IsPack t p → rate t p ≤ t.scale
  -- each leaf and each dual stands in one pack at one place
  pub members_are : (p k : ℕ) → IsPack t p → k < length (members t p) → IsMember t (member t p k) × (home t (member t p k) ≡ p)
      × (place t (member t p k) ≡ k)
  pub homes_are : (x : ℕ) → IsMember t x → IsPack t (home t x) × (place t x < length (members t (home t x))) × (member t (home t x) (place t x) ≡ x)
  -- leaves stand in level 0, the duals of a level's packs in the next
  pub leaves_are : (x : ℕ) → IsLeaf t x → (level t (home t x) ≡ 0) × (0 < rate t x)
  pub duals_are : (x : ℕ) → IsDual t x → IsPack t (primal t x) × (dual t (primal t x) ≡ Some x) × (level t (home t x) ≡ suc (level t (primal t x)))
  -- each level has a pack, and no two packs of a level have room in one
  pub each_level : (l : ℕ) → l < t.levels → (p : ℕ) × IsPack t p × (level t p ≡ l)
  pub pairs : (p q : ℕ) → IsPack t p → IsPack t q → (p ≡ q → ⊥) → level t p ≡ level t q → t.scale < rate t p + rate t q
  -- a pack of the scale's rate is a root, and each other one has its dual, of the rate that it lacks
  pub roots_are : (p : ℕ) → IsPack t p → dual t p ≡ None → rate t p ≡ t.scale
  pub has_dual : (p d : ℕ) → IsPack t p → dual t p ≡ Some d → IsDual t d × (primal t d ≡ p) × (rate t d + rate t p ≡ t.scale)
      × (rate t p < t.scale)
