-- Fronts of a schedule: what has been run of it so far.
use Rattle.std.specs.Prelude.{ℕ, ◌≡◌, ◌<◌, List, length, take}
use Rattle.sched_base.specs.declared.rows.Leaf.TheVariants.{Task}
use Rattle.sched_base.specs.declared.rows.TaskId.{TaskId}
use Rattle.sched_base.specs.declared.rows.Row.{Row}
use Rattle.sched_base.specs.Tables.{lane_of, RowAt}

-- `front` has of each lane and of each task the first rows in the order of time, and every row that starts before the horizon
pub record IsFront (lanes front : List (List Row)) (horizon : ℕ) : Type 0 where
  pub same_lanes : length front ≡ length lanes
  pub first_of_lanes : (p : ℕ) → lane_of front p ≡ take (length (lane_of front p)) (lane_of lanes p)
  pub first_of_tasks : (p q k j : ℕ) (r s : Row) (task : TaskId) → RowAt front p k r → RowAt lanes q j s → r.leaf ≡ Task task →
      s.leaf ≡ Task task →
      s.start < r.start → RowAt front q j s
  pub before_horizon : (p k : ℕ) (r : Row) → RowAt lanes p k r → r.start < horizon → RowAt front p k r
