-- What a contract sees of a book of steps, and what its type keeps.
use Rattle.std.specs.Prelude.{ℕ, ◌≡◌, ◌<◌, ◌≤◌, ◌+◌, ◌*◌, ◌^◌, List, [], Option, Some, None, false, true, length, replicate, slice_get, slice_index}
use Rattle.sched_base.specs.Limits.{window_limit}
use Rattle.sched_base.specs.Tables.{Table, rounds_in}
use Rattle.run_tree.specs.Plans.{PlanContents, rounds_of}
use Rattle.book_machine.specs.declared.events.Event.{Event}
use Rattle.book_machine.specs.Machine.{State, lane_at, posted_at, least_posted, start}
use Rattle.book_machine.specs.Rounds.{AreFirstRounds}
use Rattle.round_steps.specs.declared.halves.Halves.{Halves}
use Rattle.round_steps.specs.Steps.{IsPlanOf}
use Rattle.plan_rounds.specs.PlanRows.{IsCompiled, plan_rows}
use Rattle.plan_rounds.specs.Parts.{LogPart, posted_ticks}
use Rattle.plan_rounds.specs.Laws.{FollowsPlan}
use Rattle.book_steps.specs.Pending.{PendingContents, PendingKept}

-- what contracts see of a book for C
pub record BookHeld : Type 0 where
  pub plan : PlanContents
  pub window : ℕ
  pub state : State
  -- the rounds computed so far, and how many are left
  pub table : Table
  -- of each task the ticks of its posted rows
  pub totals : List ℕ
  -- of each processor the number of its fault, if it had one
  pub faults : List (Option ℕ)

-- the most events that a book of a plan sees: two for each row
abbrev pub most_events : PlanContents → ℕ
most_events p = 2 * (rounds_of p * p.tree.processors)

-- some list of legal events leads to this state
abbrev pub IsLed : PlanContents → ℕ → State → Type 0
IsLed p window s = (log : List Event) × LogPart p window s log (most_events p)

-- each task's total is the ticks of its posted rows
pub record AreTotals (p : PlanContents) (s : State) (totals : List ℕ) : Type 0 where
  pub many : length totals ≡ length p.set.tasks
  pub each : (t : ℕ) → t < length p.set.tasks → slice_index totals t ≡ posted_ticks (plan_rows p) s t

-- processor p had the fault of this number
abbrev pub HadFault : List (Option ℕ) → ℕ → ℕ → Type 0
HadFault faults p why = slice_get faults p ≡ Some (Some why)

-- a processor with a fault has its row back, unposted, and a book is halted where some processor had one
pub record AreFaults (s : State) (rounds : ℕ) (faults : List (Option ℕ)) : Type 0 where
  pub many : length faults ≡ length s.lanes
  pub row : (p why : ℕ) → HadFault faults p why → posted_at s p < rounds
  pub back : (p why : ℕ) → HadFault faults p why → (lane_at s.lanes p).out ≡ false
  pub halts : (p why : ℕ) → HadFault faults p why → s.halted ≡ true
  pub some : s.halted ≡ true → (p : ℕ) × (why : ℕ) × HadFault faults p why

-- what the type of a book keeps
pub record BookKept (p : PlanContents) (window : ℕ) (s : State) (r : PendingContents) (ticks : List ℕ) (whys : List (Option ℕ)) : Type 0 where
  pub compiled : IsCompiled p
  pub some_window : 1 ≤ window
  pub small_window : window ≤ window_limit
  pub pending : PendingKept p window s r
  pub led : IsLed p window s
  pub totals : AreTotals p s ticks
  pub faults : AreFaults s r.computed whys

-- what holds of a book whenever nobody is inside it: some list of legal events leads to its state, so that its posted rows are a front of
-- the plan's schedule, which is valid; the first rounds are computed, and none at or past the window
pub record IsSound (b : BookHeld) : Type 0 where
  pub follows : (log : List Event) × FollowsPlan b.plan b.window log b.state
  pub first : AreFirstRounds b.table.lanes (plan_rows b.plan)
  pub in_window : rounds_in b.table.lanes ≤ least_posted b.state + b.window
  pub totals : AreTotals b.plan b.state b.totals
  pub faults : AreFaults b.state (rounds_in b.table.lanes) b.faults

-- the table of a plan before its first round
abbrev pub no_rows : PlanContents → Table
no_rows p = record { lanes = replicate p.tree.processors []; room = rounds_of p }

-- the book of a plan before the first event
abbrev pub begun : PlanContents → ℕ → BookHeld
begun p window = record {
  plan = p;
  window = window;
  state = start p.tree.processors;
  table = no_rows p;
  totals = replicate (length p.set.tasks) 0;
  faults = replicate p.tree.processors None;
}

-- one round more couldn't be counted
abbrev pub IsFull : BookHeld → Type 0
IsFull b = 2 ^ 64 ≤ rounds_in b.table.lanes + 1

-- the book of the set of these bytes, before the first event
pub record IsBookOf (bytes : List ℕ) (window : ℕ) (b : BookHeld) : Type 0 where
  pub plan : IsPlanOf bytes b.plan
  pub begun : b ≡ begun b.plan window

-- the number of ticks that two halves are
abbrev pub halves_value : Halves → ℕ
halves_value h = h.high * 2 ^ 64 + h.low
