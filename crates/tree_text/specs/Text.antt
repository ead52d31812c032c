-- The text of a plan's tree: what the set says, the idle leaves, and the packs of each level with their members.
use Rattle.std.specs.Prelude.{ℕ, ◌==◌, Bool, false, List, [], ◌∷◌, ◌++◌, length, map, codes, decimal}
use Rattle.std.specs.List.{flat_map, range_with_len, position_or_len}
use Rattle.sched_base.specs.Bytes.{hyphen}
use Rattle.sched_base.specs.declared.rows.Leaf.{Leaf}
use Rattle.sched_base.specs.declared.rows.Leaf.TheVariants.{Task, Wait, Idle, Empty}
use Rattle.sched_base.specs.declared.sets.Task as declared
use Rattle.sched_base.specs.Sets.{task_at}
use Rattle.sched_edges.specs.Lines.{line_of, word_line, number_line, numbers_line}
use Rattle.run_tree.specs.declared.kinds.Kind.{Kind}
use Rattle.run_tree.specs.declared.kinds.Kind.TheVariants as kind
use Rattle.run_tree.specs.Tree.{Tree, kind_at, leaf_of, level, rate, members}
use Rattle.run_tree.specs.Schedule.{packs_at}
use Rattle.run_tree.specs.TreeOfSet.{idle_count}
use Rattle.run_tree.specs.Plans.{PlanContents}

-- ---- what the set says

-- processors, horizon, scale and the number of tasks
abbrev pub head_text : PlanContents → List ℕ
head_text p =
    word_line (codes "run-tree 1")
    ++ (number_line (codes "processors") p.set.processors
    ++ (number_line (codes "horizon") p.set.horizon
    ++ (number_line (codes "scale") p.tree.scale
    ++ number_line (codes "tasks") (length p.set.tasks))))

-- the line of a task: its name, its work and its period
unfoldable pub task_line : declared.Task → List ℕ
task_line t = line_of (codes "task") (t.name ∷ decimal t.work ∷ decimal t.period ∷ [])

-- ---- the idle leaves

-- whether this is idle leaf k
abbrev pub is_idle_leaf : ℕ → Leaf → Bool
is_idle_leaf k (Task id) = false
is_idle_leaf k (Wait id) = false
is_idle_leaf k (Idle number) = number == k
is_idle_leaf k Empty = false

-- the node that is idle leaf k: a tree has one for each number below the count of its idle leaves
abbrev pub idle_node : Tree → ℕ → ℕ
idle_node t k = position_or_len (λ n. is_idle_leaf k (leaf_of n.kind)) t.nodes

-- the line of idle leaf k: its number and its rate
abbrev pub idle_line : Tree → ℕ → List ℕ
idle_line t k = numbers_line (codes "idle") k (rate t (idle_node t k))

-- their count, and a line for each in the order of their numbers
abbrev pub idles_text : Tree → List ℕ
idles_text t = number_line (codes "idles") (idle_count t) ++ flat_map (idle_line t) (range_with_len 0 (idle_count t))

-- ---- the packs

-- the place of a pack among the packs of its level
abbrev pub place_in_level : Tree → ℕ → ℕ
place_in_level t p = position_or_len (λ q. q == p) (packs_at t (level t p))

-- a leaf is told by its task's name, or by -k where it is idle leaf k; no tree has other leaves
abbrev pub leaf_word : List declared.Task → Leaf → List ℕ
leaf_word tasks (Task id) = (task_at tasks id.0).name
leaf_word tasks (Wait id) = []
leaf_word tasks (Idle number) = hyphen ∷ decimal number
leaf_word tasks Empty = []

-- a dual is told by ~j, where its primal is pack j of the level below; no pack stands in another
abbrev pub kind_word : PlanContents → Kind → List ℕ
kind_word p (kind.Leaf leaf) = leaf_word p.set.tasks leaf
kind_word p (kind.Pack level) = []
kind_word p (kind.Dual primal) = 126 ∷ decimal (place_in_level p.tree primal.0)

-- the word of node n as a member of its pack
unfoldable pub member_word : PlanContents → ℕ → List ℕ
member_word p n = kind_word p (kind_at p.tree n)

-- the line of pack n: its rate, and its members in order
unfoldable pub pack_line : PlanContents → ℕ → List ℕ
pack_line p n = line_of (codes "pack") (decimal (rate p.tree n) ∷ map (member_word p) (members p.tree n))

-- a level: its number, the number of its packs, and their lines
abbrev pub level_text : PlanContents → ℕ → List ℕ
level_text p l = numbers_line (codes "level") l (length (packs_at p.tree l)) ++ flat_map (pack_line p) (packs_at p.tree l)

-- ---- the whole

-- the text of a plan's tree
abbrev pub tree_text : PlanContents → List ℕ
tree_text p =
    head_text p
    ++ (flat_map task_line p.set.tasks
    ++ (idles_text p.tree
    ++ (flat_map (level_text p) (range_with_len 0 p.tree.levels)
    ++ number_line (codes "levels") p.tree.levels)))
