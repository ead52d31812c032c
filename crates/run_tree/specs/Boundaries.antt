-- The boundaries of a tree's nodes, in units. What the boundaries of a leaf are is a parameter, `of_leaf`.
use Rattle.std.specs.Prelude.{ℕ, zero, suc, ◌%◌, ◌^◌, ◌==◌, Bool, true, false, List, [], ◌∷◌}
use Rattle.sched_base.specs.declared.rows.Leaf.{Leaf}
use Rattle.sched_base.specs.declared.rows.Leaf.TheVariants.{Task, Wait, Idle, Empty}
use Rattle.sched_base.specs.declared.sets.Task as declared
use Rattle.sched_base.specs.Sets.{task_at}
use Rattle.sched_base.specs.Boundaries.{task_boundary}
use Rattle.run_tree.specs.declared.kinds.Kind.{Kind}
use Rattle.run_tree.specs.declared.kinds.Kind.TheVariants as kind
use Rattle.run_tree.specs.Tree.{Tree, kind_at, leaf, level, primal, members, IsLeaf}
use Rattle.run_tree.specs.Windows.{HasBoundaries}

-- whether some item passes
abbrev pub any_of : (ℕ → Bool) → List ℕ → Bool
any_of passes [] = false
any_of passes (x ∷ xs) = elim (passes x) [ true ↦ true | false ↦ any_of passes xs ]

-- a leaf has its own boundaries, a dual those of its primal
abbrev pub member_boundary : (Leaf → ℕ → Bool) → (ℕ → ℕ → Bool) → Kind → ℕ → Bool
member_boundary of_leaf of_pack (kind.Leaf leaf) u = of_leaf leaf u
member_boundary of_leaf of_pack (kind.Pack level) u = false
member_boundary of_leaf of_pack (kind.Dual primal) u = of_pack primal.0 u

-- a pack of this level has all boundaries of its members
abbrev pub pack_boundary : (Leaf → ℕ → Bool) → Tree → ℕ → ℕ → ℕ → Bool
pack_boundary of_leaf t zero p u = any_of (λ x. member_boundary of_leaf (λ q v. false) (kind_at t x) u) (members t p)
pack_boundary of_leaf t (suc level) p u = any_of (λ x. member_boundary of_leaf (λ q v. pack_boundary of_leaf t level q v) (kind_at t x) u) (members t p)

-- whether unit u is a boundary of node x, which is of this kind
abbrev pub node_boundary : (Leaf → ℕ → Bool) → Tree → ℕ → Kind → ℕ → Bool
node_boundary of_leaf t x (kind.Leaf leaf) u = of_leaf leaf u
node_boundary of_leaf t x (kind.Pack level) u = pack_boundary of_leaf t level x u
node_boundary of_leaf t x (kind.Dual primal) u = pack_boundary of_leaf t (level t primal.0) primal.0 u

-- whether unit u is a boundary of node x
unfoldable pub is_boundary : (Leaf → ℕ → Bool) → Tree → ℕ → ℕ → Bool
is_boundary of_leaf t x u = node_boundary of_leaf t x (kind_at t x) u

-- all that the laws use of the boundaries of leaves
abbrev pub HaveBoundaries : (Leaf → ℕ → Bool) → Tree → Type 0
HaveBoundaries of_leaf t = (x : ℕ) → IsLeaf t x → HasBoundaries (of_leaf (leaf t x))

-- the boundaries of a set's leaves; an idle leaf has them at the multiples of 2 ^ 33
abbrev pub set_boundary : List declared.Task → Leaf → ℕ → Bool
set_boundary tasks (Task id) u = task_boundary (task_at tasks id.0) u
set_boundary tasks (Idle number) u = u % 2 ^ 33 == 0
set_boundary tasks (Wait id) u = false
set_boundary tasks Empty u = false
