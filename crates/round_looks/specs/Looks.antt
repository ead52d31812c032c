-- What processors show in a round, and what is told of it.
use Rattle.std.specs.Prelude.{ℕ, ◌≡◌, ◌<◌, ◌≤◌, length, Option, None, Some, slice_index_or}
use Rattle.sched_base.specs.declared.rows.Leaf.{Leaf}
use Rattle.sched_base.specs.declared.rows.Leaf.TheVariants.{Empty}
use Rattle.sched_base.specs.declared.rows.NodeId.{NodeId}
use Rattle.sched_base.specs.declared.rows.Row.{Row}
use Rattle.run_tree.specs.Tree.{leaf}
use Rattle.run_tree.specs.Schedule.{shown}
use Rattle.run_tree.specs.Plans.{PlanContents}
use Rattle.event_core.specs.Rounds.{rows_of_round}

-- what node n shows in a round that begins at a tick, where it runs on a processor
abbrev pub shown_for : PlanContents → ℕ → ℕ → Leaf
shown_for p n start = shown p.set.tasks p.tree.scale start (leaf p.tree n)

-- what a row of the round from `start` up to `end` shows; `none` stands for one that isn't there
abbrev pub leaf_at : PlanContents → ℕ → ℕ → ℕ → Row → Leaf
leaf_at p start end q none = (slice_index_or (rows_of_round p start end) q none).leaf

-- this node, if any, runs on processor q in the round from `start` up to `end`
pub record IsNodeOn (p : PlanContents) (start end q : ℕ) (node : Option NodeId) : Type 0 where
  pub none : (none : Row) → node ≡ None → leaf_at p start end q none ≡ Empty
  pub some : (n : NodeId) (none : Row) → node ≡ Some n → leaf_at p start end q none ≡ shown_for p n.0 start
  pub within : (n : NodeId) → node ≡ Some n → n.0 < length p.tree.nodes

-- Of processor q it is told what its row of the round from `start` up to `end` shows, or nothing where the node that is kept of it
-- runs there again; and a node is kept then only where it shows the same from `start` on.
pub record IsLooked (p : PlanContents) (start end q : ℕ) (before after : Option NodeId) (told : Option Leaf) : Type 0 where
  pub again : told ≡ None → (n : NodeId) × (before ≡ Some n) × (after ≡ Some n) × ((none : Row) → leaf_at p start end q none ≡ shown_for p n.0 start)
  pub other : (leaf : Leaf) (none : Row) → told ≡ Some leaf → leaf_at p start end q none ≡ leaf
  pub stays : (leaf : Leaf) (n : NodeId) (t : ℕ) → told ≡ Some leaf → after ≡ Some n → start ≤ t → shown_for p n.0 t ≡ leaf
