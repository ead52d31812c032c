-- What the type of a book keeps of its rows and of its log.
use Rattle.std.specs.Prelude.{ℕ, ◌≡◌, ◌<◌, ◌≤◌, ◌+◌, ◌*◌, List, Option, IfSome, length}
use Rattle.sched_base.specs.Limits.{window_limit}
use Rattle.sched_base.specs.declared.rows.Row.{Row}
use Rattle.sched_base.specs.declared.rows.ProcId.{ProcId}
use Rattle.sched_base.specs.Tables.{rounds_in, row_limit, ticks_of}
use Rattle.run_tree.specs.Plans.{PlanContents, rounds_of}
use Rattle.book_machine.specs.declared.events.Event.{Event}
use Rattle.book_machine.specs.Machine.{State, posted_at, least_posted, IsOut, Replays, start}
use Rattle.book_machine.specs.Reached.{IsReached, counts_of}
use Rattle.plan_rounds.specs.PlanRows.{IsCompiled, RoundsContents, AreRoundsOf, plan_rows}

-- processor p
abbrev pub processor : ℕ → ProcId
processor p = record { 0 = p }

-- the ticks of a task's posted rows
abbrev pub posted_ticks : List (List Row) → State → ℕ → ℕ
posted_ticks rows s t = ticks_of t rows (counts_of s.lanes)

-- the table holds each row that is posted or out, and no round at or past the window
pub record RowsKept (p : PlanContents) (window : ℕ) (s : State) (r : RoundsContents) : Type 0 where
  pub rounds : AreRoundsOf p r
  pub posted : (q : ℕ) → posted_at s q ≤ rounds_in r.table.lanes
  pub out : (q : ℕ) → IsOut s q → posted_at s q < rounds_in r.table.lanes
  pub in_window : rounds_in r.table.lanes ≤ least_posted s + window

-- the rows: their number is that of the schedule, and until the book is dismissed its table holds the first rounds
pub record RowsPart (p : PlanContents) (count window : ℕ) (s : State) (rounds : Option RoundsContents) : Type 0 where
  pub compiled : IsCompiled p
  pub all : count ≡ rounds_of p
  pub few : rounds_of p * p.tree.processors ≤ row_limit
  pub some_window : 1 ≤ window
  pub small_window : window ≤ window_limit
  pub kept : IfSome rounds (λ r. RowsKept p window s r)

-- the log: it leads to the state over the schedule's rows, and has room for two events of each row
pub record LogPart (p : PlanContents) (window : ℕ) (s : State) (log : List Event) (capacity : ℕ) : Type 0 where
  pub replays : Replays (plan_rows p) window (start (length (plan_rows p))) log s
  pub reached : IsReached (plan_rows p) window s
  pub room : 2 * (rounds_of p * p.tree.processors) ≤ capacity
