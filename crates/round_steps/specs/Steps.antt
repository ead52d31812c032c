-- Rounds of a plan, one by one.
use Rattle.std.specs.Prelude.{◌≡◌, ℕ, List, Ok}
use Rattle.sched_base.specs.declared.rows.Leaf.{Leaf}
use Rattle.sched_base.specs.declared.rows.Leaf.TheVariants.{Task}
use Rattle.sched_base.specs.declared.rows.Row.{Row}
use Rattle.sched_base.specs.Scale.{IsScale, Fits}
use Rattle.run_tree.specs.Compiled.{tree_of}
use Rattle.run_tree.specs.Plans.{PlanContents}
use Rattle.task_reader.specs.Reading.{set_read_from}
use Rattle.event_core.specs.Cores.{CoreContents}

-- the plan, the core between two rounds, and the rows of the round just gone
pub record StepsHeld : Type 0 where
  pub plan : PlanContents
  pub core : CoreContents
  pub rows : List Row

-- the bytes are this plan's set, which fits, and its tree is the compiled one
pub record IsPlanOf (bytes : List ℕ) (p : PlanContents) : Type 0 where
  pub read : set_read_from bytes ≡ Ok p.set
  pub is_scale : IsScale p.set.tasks p.tree.scale
  pub fits : Fits p.tree.scale p.set
  pub tree : p.tree ≡ tree_of p.tree.scale p.set

-- the number of the task that a row shows; 2 ^ 32 - 1 where it shows none
abbrev pub task_shown : Leaf → ℕ
task_shown (Task task) = task.0
task_shown _ = 4294967295
