-- Leaves that are alike.
use Rattle.std.proofs.Common.{List, ap₂, eqb, leb, refl, true, ℕ, ◌%◌, ◌&&◌, ◌-◌, ◌||◌, ◌≡◌}
use Rattle.sched_base.specs.declared.rows.Leaf.{Leaf}
use Rattle.sched_base.specs.declared.rows.Leaf.TheVariants.{Empty, Idle, Task, Wait}
use Rattle.sched_base.specs.declared.sets.Task as declared
use Rattle.run_tree.specs.declared.kinds.Kind.{Kind}
use Rattle.run_tree.specs.Boundaries.{set_boundary}
use Rattle.run_tree.specs.Rounds.{is_task}
use Rattle.run_tree.specs.Tree.{is_leaf, leaf_of}
use Rattle.run_tree.specs.declared.kinds.Kind.TheVariants as kind
use Rattle.partition_laws.specs.Partitions.{AreAlike}

-- leaves that are alike have the same boundaries
pub alike_boundary : (tasks others : List declared.Task) (l m : Leaf) → AreAlike tasks others l m → (u : ℕ) → set_boundary tasks l u ≡ set_boundary others m u
alike_boundary tasks others (Task id) (Task other) a u = ap₂ (λ p o. eqb u 0 || (leb o u && eqb ((u - o) % p) 0)) a.0 a.1
alike_boundary tasks others (Task id) (Wait other) a u = absurd a
alike_boundary tasks others (Task id) (Idle other) a u = absurd a
alike_boundary tasks others (Task id) Empty a u = absurd a
alike_boundary tasks others (Wait id) other a u = absurd a
alike_boundary tasks others (Idle number) (Task other) a u = absurd a
alike_boundary tasks others (Idle number) (Wait other) a u = absurd a
alike_boundary tasks others (Idle number) (Idle other) a u = refl
alike_boundary tasks others (Idle number) Empty a u = absurd a
alike_boundary tasks others Empty other a u = absurd a

-- alike leaves are tasks both or neither
pub alike_task : (tasks others : List declared.Task) (l m : Leaf) → AreAlike tasks others l m → is_task l ≡ is_task m
alike_task tasks others (Task id) (Task other) a = refl
alike_task tasks others (Task id) (Wait other) a = absurd a
alike_task tasks others (Task id) (Idle other) a = absurd a
alike_task tasks others (Task id) Empty a = absurd a
alike_task tasks others (Wait id) other a = absurd a
alike_task tasks others (Idle number) (Task other) a = absurd a
alike_task tasks others (Idle number) (Wait other) a = absurd a
alike_task tasks others (Idle number) (Idle other) a = refl
alike_task tasks others (Idle number) Empty a = absurd a
alike_task tasks others Empty other a = absurd a

-- what is like a leaf is one
pub alike_leaf : (tasks others : List declared.Task) (k : Kind) (l : Leaf) → AreAlike tasks others (leaf_of k) l → is_leaf k ≡ true
alike_leaf tasks others (kind.Leaf leaf) l a = refl
alike_leaf tasks others (kind.Pack level) l a = absurd a
alike_leaf tasks others (kind.Dual primal) l a = absurd a
