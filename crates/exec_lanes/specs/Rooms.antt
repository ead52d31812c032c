-- What a run takes before it begins, and what it answers when it has ended.
use Rattle.std.specs.Prelude.{ℕ, ◌≡◌, ◌<◌, ◌≤◌, List, [], Option, Some, None, Result, Ok, Err, length, slice_get, slice_index}
use Rattle.sched_base.specs.Tables.{Table}
use Rattle.sched_base.specs.Totals.{TotalsHeld}
use Rattle.sched_edges.specs.Jobs.{JobAt}
use Rattle.run_tree.specs.Plans.{PlanContents}
use Rattle.unit_ledger.specs.Seats.{Seat, seats_at_start}
use Rattle.exec_lanes.specs.declared.answers.Executed.{Executed}
use Rattle.exec_lanes.specs.declared.answers.ExecFault.{ExecFault}
use Rattle.exec_lanes.specs.declared.answers.FirstFault.{FirstFault}
use Rattle.exec_lanes.specs.Ends.{fault_with}

-- the counts say how often the job of each task of the plan has failed, and the rest has room for all lanes and all totals
pub record HasRoom {J : Type 0} (faults : J → ℕ) (p : PlanContents) (places : List (Option J)) (counts posted : List ℕ) (totals : TotalsHeld)
    (lanes capacity : ℕ) : Type 0 where
  pub count : length counts ≡ length p.set.tasks
  pub told : (t : ℕ) (job : J) → t < length p.set.tasks → JobAt places t job → slice_index counts t ≡ faults job
  pub all_posted : length posted ≡ p.tree.processors
  pub no_total : totals.ticks ≡ []
  pub all_totals : length p.set.tasks ≤ totals.room
  pub no_lane : lanes ≡ 0
  pub all_lanes : p.tree.processors ≤ capacity

-- the seats are those before the first post, and the job of each task of the plan is out of its place
pub record IsOpened {J : Type 0} (p : PlanContents) (places places' : List (Option J)) (seats : List (Option Seat)) : Type 0 where
  pub at_start : seats ≡ seats_at_start p.tree.processors
  pub lent : (t : ℕ) → t < length p.set.tasks → slice_get places' t ≡ Some None
  pub others : (t : ℕ) → length p.set.tasks ≤ t → slice_get places' t ≡ slice_get places t

-- the answer names the failure, or where there is none has the table, the number of posts and the ticks of the first n jobs
abbrev pub IsAnswerOf : {J : Type 0} → (J → ℕ) → ℕ → List (Option J) → Table → ℕ → Option FirstFault → Result Executed ExecFault → Type 0
IsAnswerOf used n places table posts (Some fault) result = result ≡ Err (fault_with fault posts)
IsAnswerOf used n places table posts None (Err fault) = ⊥
IsAnswerOf {J} used n places table posts None (Ok e) = (e.table ≡ table) × (e.posts ≡ posts) × (length e.totals.ticks ≡ n)
    × ((t : ℕ) (job : J) → t < n → JobAt places t job → slice_index e.totals.ticks t ≡ used job)
