-- Which trees are reduction trees of a set, whatever rule packed them.
use Rattle.std.specs.Prelude.{ℕ, ◌<◌, ◌≡◌, ◌&&◌, Bool, true, false, List, length}
use Rattle.sched_base.specs.Counting.{sum_to, bit}
use Rattle.sched_base.specs.declared.rows.TaskId.{TaskId}
use Rattle.sched_base.specs.declared.rows.Leaf.{Leaf}
use Rattle.sched_base.specs.declared.rows.Leaf.TheVariants.{Task, Wait, Idle, Empty}
use Rattle.sched_base.specs.declared.sets.Task as declared
use Rattle.sched_base.specs.Sets.{SetContents, task_at}
use Rattle.sched_base.specs.Scale.{IsScale, rate_of}
use Rattle.run_tree.specs.Tree.{Tree, kind_at, is_leaf, leaf, rate, IsLeaf, IsTree}

-- task number j
abbrev pub task_id : ℕ → TaskId
task_id j = record { 0 = j }

-- whether the leaf is an idle one
abbrev pub is_idle : Leaf → Bool
is_idle (Task id) = false
is_idle (Wait id) = false
is_idle (Idle number) = true
is_idle Empty = false

-- whether a tree may have such a leaf
abbrev pub is_real : Leaf → Bool
is_real (Task id) = true
is_real (Wait id) = false
is_real (Idle number) = true
is_real Empty = false

-- a leaf that the tree of these tasks may have
abbrev pub IsKnown : List declared.Task → Leaf → Type 0
IsKnown tasks (Task id) = id.0 < length tasks
IsKnown tasks (Wait id) = ⊥
IsKnown tasks (Idle number) = Unit {0}
IsKnown tasks Empty = ⊥

-- how many idle leaves a tree has
abbrev pub idle_count : Tree → ℕ
idle_count t = sum_to (length t.nodes) (λ x. bit (is_leaf (kind_at t x) && is_idle (leaf t x)))

-- level 0 holds each of the tasks once, with its rate, and else idle leaves alone
pub record HoldsTasks (tasks : List declared.Task) (t : Tree) : Type 0 where
  pub has_task : (j : ℕ) → j < length tasks → (x : ℕ) × IsLeaf t x × (leaf t x ≡ Task (task_id j))
      × (rate t x ≡ rate_of t.scale (task_at tasks j))
  pub once : (x y : ℕ) (id : TaskId) → IsLeaf t x → IsLeaf t y → leaf t x ≡ Task id → leaf t y ≡ Task id → x ≡ y
  pub known : (x : ℕ) (id : TaskId) → IsLeaf t x → leaf t x ≡ Task id → id.0 < length tasks
  pub real : (x : ℕ) → IsLeaf t x → is_real (leaf t x) ≡ true

-- the numbers of the idle leaves are those below their count, each once
pub record NumbersIdles (t : Tree) : Type 0 where
  pub below : (x number : ℕ) → IsLeaf t x → leaf t x ≡ Idle number → number < idle_count t
  pub once : (x y number : ℕ) → IsLeaf t x → IsLeaf t y → leaf t x ≡ Idle number → leaf t y ≡ Idle number → x ≡ y

-- a reduction tree of a set
pub record IsTreeOf (s : SetContents) (t : Tree) : Type 0 where
  pub tree : IsTree t
  pub processors : t.processors ≡ s.processors
  pub scale : IsScale s.tasks t.scale
  pub tasks : HoldsTasks s.tasks t
  pub idles : NumbersIdles t
