-- Partitioned plans: each processor schedules the tasks of one pack alone, as a plan of its own does that has one processor.
use Rattle.std.specs.Prelude.{ℕ, ◌*◌, ◌<◌, ◌≤◌, ◌≡◌, List, length, None, slice_index_or}
use Rattle.sched_base.specs.declared.rows.Leaf.{Leaf}
use Rattle.sched_base.specs.declared.rows.Leaf.TheVariants.{Task, Wait, Idle, Empty}
use Rattle.sched_base.specs.declared.sets.Task as declared
use Rattle.sched_base.specs.Sets.{task_at}
use Rattle.run_tree.specs.Plans.{PlanContents}
use Rattle.run_tree.specs.Schedule.{packs_at}
use Rattle.run_tree.specs.Tree.{Tree, IsPack, dual, leaf, level, member, members, rate}

-- every pack of level 0 is a root
abbrev pub IsPartitioned : Tree → Type 0
IsPartitioned t = (p : ℕ) → IsPack t p → level t p ≡ 0 → dual t p ≡ None

-- pack i of level 0
abbrev pub first_pack : Tree → ℕ → ℕ
first_pack t i = slice_index_or (packs_at t 0) i 0

-- how many members it has, and member k of them
abbrev pub member_count : Tree → ℕ → ℕ
member_count t i = length (members t (first_pack t i))

-- member k of pack i of level 0
abbrev pub member_of : Tree → ℕ → ℕ → ℕ
member_of t i k = member t (first_pack t i) k

-- both are idle leaves, or tasks with the same period and the same offset
abbrev pub AreAlike : List declared.Task → List declared.Task → Leaf → Leaf → Type 0
AreAlike tasks others (Task id) (Task other) = ((task_at tasks id.0).period ≡ (task_at others other.0).period)
    × ((task_at tasks id.0).offset ≡ (task_at others other.0).offset)
AreAlike tasks others (Task id) (Wait other) = ⊥
AreAlike tasks others (Task id) (Idle other) = ⊥
AreAlike tasks others (Task id) Empty = ⊥
AreAlike tasks others (Wait id) other = ⊥
AreAlike tasks others (Idle number) (Task other) = ⊥
AreAlike tasks others (Idle number) (Wait other) = ⊥
AreAlike tasks others (Idle number) (Idle other) = Unit {0}
AreAlike tasks others (Idle number) Empty = ⊥
AreAlike tasks others Empty other = ⊥

-- Plan `own` has one pack at level 0, a root, whose members are like those of pack i of plan `whole` in turn: with the same boundaries, and rates
-- that are `factor` times less, as each unit has `factor` times less ticks.
pub record IsOwnPlan (whole own : PlanContents) (i factor : ℕ) : Type 0 where
  pub some : 1 ≤ factor
  pub scale : whole.tree.scale ≡ factor * own.tree.scale
  pub horizon : whole.set.horizon ≡ own.set.horizon
  pub pack : i < length (packs_at whole.tree 0)
  pub one : length (packs_at own.tree 0) ≡ 1
  pub root : IsPartitioned own.tree
  pub same : member_count own.tree 0 ≡ member_count whole.tree i
  pub rates : (k : ℕ) → k < member_count own.tree 0 → rate whole.tree (member_of whole.tree i k) ≡ factor * rate own.tree (member_of own.tree 0 k)
  pub alike : (k : ℕ) → k < member_count own.tree 0 →
      AreAlike whole.set.tasks own.set.tasks (leaf whole.tree (member_of whole.tree i k)) (leaf own.tree (member_of own.tree 0 k))

-- plan `own i` is that of pack i, for each pack of level 0
abbrev pub AreOwnPlans : PlanContents → (ℕ → PlanContents) → (ℕ → ℕ) → Type 0
AreOwnPlans whole own factor = (i : ℕ) → i < length (packs_at whole.tree 0) → IsOwnPlan whole (own i) i (factor i)
