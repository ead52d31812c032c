-- What is so of the merged rows of a whole schedule.
use Rattle.std.specs.Prelude.{◌≡◌, ◌≤◌, List, length}
use Rattle.std.specs.List.{AllByRecursion}
use Rattle.sched_base.specs.declared.rows.Row.{Row}
use Rattle.sched_base.specs.Sets.{SetContents}
use Rattle.sched_base.specs.Tables.{all_rows, row_limit}
use Rattle.row_totals.specs.Sums.{NamesAmong, AreForward}
use Rattle.merged_rows.specs.Sums.{TicksFit}

-- what is so of the merged rows of a set's schedule that isn't too long
pub record AreLawful (s : SetContents) (lanes : List (List Row)) : Type 0 where
  pub processors : length lanes ≡ s.processors
  pub names : AllByRecursion (NamesAmong (length s.tasks)) lanes
  pub forward : AllByRecursion AreForward lanes
  pub few : length (all_rows lanes) ≤ row_limit
  pub fit : TicksFit (all_rows lanes)
