-- The merged rows of a plan's schedule.
use Rattle.std.specs.Prelude.{ℕ, ◌≡◌, ◌≤◌, true, List, map, Option, Some}
use Rattle.sched_base.specs.declared.rows.Leaf.{Leaf}
use Rattle.sched_base.specs.declared.rows.NodeId.{NodeId}
use Rattle.sched_base.specs.declared.rows.Row.{Row}
use Rattle.sched_base.specs.Lanes.{lanes_of}
use Rattle.run_tree.specs.Plans.{PlanContents, schedule_of}
use Rattle.merged_rows.specs.Merging.{merged}
use Rattle.merged_rows.specs.Columns.{ends_showing}
use Rattle.round_looks.specs.Looks.{shown_for}

-- these are the rows of a plan's schedule, each processor's merged
abbrev pub AreMergedOf : PlanContents → List (List Row) → Type 0
AreMergedOf p lanes = lanes ≡ map merged (lanes_of p.tree.processors (schedule_of p))

-- Where a node is kept of a processor, it shows from this tick on what the last of these rows shows.
pub record IsKept (p : PlanContents) (tick : ℕ) (rows : List Row) (node : Option NodeId) : Type 0 where
  pub leaf : Leaf
  pub stays : (n : NodeId) (t : ℕ) → node ≡ Some n → tick ≤ t → shown_for p n.0 t ≡ leaf
  pub last : (n : NodeId) → node ≡ Some n → ends_showing rows leaf ≡ true
