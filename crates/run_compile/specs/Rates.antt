-- Rates that the compiler packs.
use Rattle.std.specs.Prelude.{ℕ, List, ◌≤◌, ◌^◌, length}
use Rattle.sched_base.specs.Limits.{processor_limit, task_limit}
use Rattle.tree_laws.specs.Raised.{RatesFit}

-- the rates of the tasks of a set that fits, by its scale
pub record AreOfSet (processors scale : ℕ) (rates : List ℕ) : Type 0 where
  pub fit : RatesFit processors scale rates
  pub few_processors : processors ≤ processor_limit
  pub scale_fits : scale ≤ 2 ^ 94
  pub few_tasks : length rates ≤ task_limit
