-- What is known of a book that was found under the lock and passed a test.
use Rattle.std.specs.Prelude.{ℕ, Bool, ◌≡◌, ◌≢◌, ◌<◌, ◌+◌, List, Option, None, false, length}
use Rattle.sched_base.specs.declared.rows.Row.{Row}
use Rattle.sched_base.specs.Sets.{SetContents}
use Rattle.sched_edges.specs.Jobs.{FaultsAre}
use Rattle.run_tree.specs.Plans.{PlanContents, IsPlan}
use Rattle.unit_ledger.specs.Seats.{Seat}
use Rattle.exec_lanes.specs.Lanes.{LaneContents, lane_in}
use Rattle.book_machine.specs.Machine.{State, IsOut, HasTakeable, lane_at, posted_at}
use Rattle.book_machine.specs.Reached.{IsReached, OutRow, counts_of}
use Rattle.plan_rounds.specs.PlanRows.{IsCompiled, plan_rows}
use Rattle.plan_rounds.specs.Parts.{posted_ticks}
use Rattle.exec_book.specs.Jobs.{Made, IsJobOf}
use Rattle.exec_book.specs.Books.{BookContents, IsDismissed}

-- the plan is compiled, and its set is the ledger's
pub record IsAgreed (p : PlanContents) (set : SetContents) : Type 0 where
  pub compiled : IsCompiled p
  pub set_is : p.set ≡ set

-- the book is one of the plan that isn't dismissed, and stands at the seat's count, with a row out on the seat's lane or with none
pub record StandsAt {J : Type 0} (p : PlanContents) (b : BookContents J) (seat : Seat) (out : Bool) : Type 0 where
  pub plan : b.plan ≡ p
  pub lawful : IsPlan b.plan
  pub undismissed : ¬ (IsDismissed b)
  pub reached : IsReached (plan_rows b.plan) b.window b.state
  pub lane : seat.lane < length b.state.lanes
  pub out_is : (lane_at b.state.lanes seat.lane).out ≡ out
  pub count : posted_at b.state seat.lane ≡ seat.posted

-- a book with no row out that stands at the seat's count, and is halted or its jobs have failed as often as is given
pub record IsToldAt {J : Type 0} (faults : J → ℕ) (p : PlanContents) (b : BookContents J) (seat : Seat) (counts : List ℕ) : Type 0 where
  pub free : StandsAt p b seat false
  pub told : b.state.halted ≡ false → FaultsAre faults b.jobs.places counts

-- the book is one of the plan that isn't dismissed, and this row is out on the seat's lane at the seat's count
pub record IsOutAt {J : Type 0} (p : PlanContents) (b : BookContents J) (seat : Seat) (row : Row) : Type 0 where
  pub plan : b.plan ≡ p
  pub undismissed : ¬ (IsDismissed b)
  pub count : posted_at b.state seat.lane ≡ seat.posted
  pub out : OutRow (plan_rows b.plan) b.state seat.lane row

-- a row is out on the seat's lane, and the job is that of the row, having worked that many ticks for it
pub record IsOutWith {J : Type 0} (id used : J → ℕ) (made : J → Made) (all_made : List Made) (p : PlanContents) (b : BookContents J)
    (seat : Seat) (row : Row) (job : Option J) (ticks : ℕ) : Type 0 where
  pub found : IsOutAt p b seat row
  pub own : IsJobOf id used made all_made (λ t. posted_ticks (plan_rows b.plan) b.state t + ticks) row.leaf job

-- the book is one of the plan that isn't dismissed, no row is out, and these are the posted counts
pub record IsWholeAt {J : Type 0} (p : PlanContents) (b : BookContents J) (posted : List ℕ) : Type 0 where
  pub plan : b.plan ≡ p
  pub undismissed : ¬ (IsDismissed b)
  pub none_out : (q : ℕ) → ¬ (IsOut b.state q)
  pub counts : counts_of b.state.lanes ≡ posted

-- no row of the book is out, and its jobs have failed as often as is given
pub record IsClosable {J : Type 0} (faults : J → ℕ) (p : PlanContents) (b : BookContents J) (posted counts : List ℕ) : Type 0 where
  pub whole : IsWholeAt p b posted
  pub told : FaultsAre faults b.jobs.places counts

-- the next row of each lane that failed could be taken, were the book not halted
abbrev pub AreDue : List (List Row) → ℕ → State → List LaneContents → Type 0
AreDue rows window s lanes = (q : ℕ) → q < length lanes → (lane_in lanes q).cause ≢ None → HasTakeable rows window s q

-- the book is closable, has this window, and what failed on these lanes could be taken
pub record IsClosableAfter {J : Type 0} (faults : J → ℕ) (p : PlanContents) (window : ℕ) (b : BookContents J) (lanes : List LaneContents)
    (posted counts : List ℕ) : Type 0 where
  pub closable : IsClosable faults p b posted counts
  pub window_is : b.window ≡ window
  pub due : AreDue (plan_rows b.plan) b.window b.state lanes
