-- Plans: a set with its scale and a reduction tree of it.
use Rattle.std.specs.Prelude.{ℕ, ◌*◌, ◌≤◌, ◌<◌, ◌^◌, Bool, List, length}
use Rattle.sched_base.specs.Limits.{processor_limit}
use Rattle.sched_base.specs.declared.rows.Row.{Row}
use Rattle.sched_base.specs.Sets.{SetContents, IsLawful}
use Rattle.run_tree.specs.Tree.{Tree, IsTree, rate}
use Rattle.run_tree.specs.TreeOfSet.{IsTreeOf}
use Rattle.run_tree.specs.Boundaries.{is_boundary, set_boundary}
use Rattle.run_tree.specs.Schedule as schedule

-- what contracts see of a plan: a set and a reduction tree of it
pub record PlanContents : Type 0 where
  pub set : SetContents
  pub tree : Tree

-- what the type of a tree keeps beside being a reduction tree, so that its numbers fit
pub record IsSized (t : Tree) : Type 0 where
  pub scale_fits : t.scale ≤ 2 ^ 94
  pub some_processors : 1 ≤ t.processors
  pub few_processors : t.processors ≤ processor_limit
  pub few_nodes : length t.nodes < 2 ^ 32
  pub rates : (x : ℕ) → x < length t.nodes → rate t x ≤ t.scale

-- a reduction tree within the limits
pub record IsLawfulTree (t : Tree) : Type 0 where
  pub tree : IsTree t
  pub sized : IsSized t

-- a lawful set with a reduction tree of it, within the limits
pub record IsPlan (p : PlanContents) : Type 0 where
  pub lawful : IsLawful p.set
  pub tree : IsTreeOf p.set p.tree
  pub sized : IsSized p.tree

-- the tick at which the schedule of a plan ends
abbrev pub stop_of : PlanContents → ℕ
stop_of p = p.set.horizon * p.tree.scale

-- whether unit u is a boundary of node x of a plan
abbrev pub boundary_of : PlanContents → ℕ → ℕ → Bool
boundary_of p x u = is_boundary (set_boundary p.set.tasks) p.tree x u

-- the rows of a plan's schedule, and their number of rounds
abbrev pub schedule_of : PlanContents → List Row
schedule_of p = schedule.schedule p.set.tasks p.tree (stop_of p)

-- the number of rounds of a plan's schedule
abbrev pub rounds_of : PlanContents → ℕ
rounds_of p = schedule.rounds p.set.tasks p.tree (stop_of p)
