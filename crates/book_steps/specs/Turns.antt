-- What a take says, and what a take, a post and a halt do.
use Rattle.std.specs.Prelude.{ℕ, ◌≡◌, ◌<◌, ◌+◌, ◌-◌, List, Some, None, false, true, slice_get, slice_index, slice_set}
use Rattle.sched_base.specs.declared.rows.Leaf.{Leaf}
use Rattle.sched_base.specs.declared.rows.Leaf.TheVariants.{Task, Wait as Waiting, Idle, Empty}
use Rattle.sched_base.specs.declared.rows.Row.{Row}
use Rattle.sched_base.specs.Tables.{RowAt, rounds_in}
use Rattle.run_tree.specs.Plans.{rounds_of}
use Rattle.book_machine.specs.declared.events.Event.TheVariants.{Take, Post, Halt}
use Rattle.book_machine.specs.Machine.{posted_at, least_posted, MayTake, IsLegal, WaitsFor, after}
use Rattle.book_machine.specs.Reached.{OutRow}
use Rattle.plan_rounds.specs.PlanRows.{plan_rows}
use Rattle.plan_rounds.specs.Parts.{processor}
use Rattle.book_steps.specs.Books.{BookHeld, HadFault, IsFull}
use Rattle.book_steps.specs.declared.tell.Fault.{Fault}
use Rattle.book_steps.specs.declared.turns.Turn.{Turn}
use Rattle.book_steps.specs.declared.turns.Turn.TheVariants.{Ready, Wait, Over, Halted, Full}

-- a take hands this row of processor p out
pub record Hands (old new : BookHeld) (p : ℕ) (row : Row) : Type 0 where
  pub legal : MayTake (plan_rows old.plan) old.window old.state p row
  pub book : new ≡ record old { state = after old.state (Take (processor p)); table = new.table }

-- a take hands nothing out: processor p waits for this one, which has posted fewer rows
pub record Waits (old new : BookHeld) (p lane : ℕ) : Type 0 where
  pub running : old.state.halted ≡ false
  pub left : posted_at old.state p < rounds_of old.plan
  pub not_legal : ¬ (IsLegal (plan_rows old.plan) old.window old.state (Take (processor p)))
  pub reason : WaitsFor (plan_rows old.plan) old.window old.state p lane
  pub behind : posted_at old.state lane < posted_at old.state p
  -- the processor's next round is computed, unless the window is the reason
  pub held : posted_at old.state p < least_posted old.state + old.window → posted_at old.state p < rounds_in new.table.lanes
  pub book : new ≡ record old { table = new.table }

-- what a take on processor p says
abbrev pub TurnMeans : BookHeld → BookHeld → ℕ → Turn → Type 0
TurnMeans old new p (Ready row) = Hands old new p row
TurnMeans old new p (Wait lane) = Waits old new p lane
TurnMeans old new p Over = (old.state.halted ≡ false) × (posted_at old.state p ≡ rounds_of old.plan) × (new ≡ old)
TurnMeans old new p Halted = (old.state.halted ≡ true) × (new ≡ old)
TurnMeans old new p Full = IsFull old × (new ≡ old)

-- the totals, with the ticks of a row of this leaf
abbrev pub with_ticks : List ℕ → Leaf → ℕ → List ℕ
with_ticks totals (Task task) ticks = slice_set totals task.0 (slice_index totals task.0 + ticks)
with_ticks totals (Waiting task) ticks = totals
with_ticks totals (Idle number) ticks = totals
with_ticks totals Empty ticks = totals

-- the row that is out on processor p was posted
pub record Posts (old new : BookHeld) (p : ℕ) : Type 0 where
  pub row : Row
  pub out : OutRow (plan_rows old.plan) old.state p row
  pub book : new ≡ record old { state = after old.state (Post (processor p)); totals = with_ticks old.totals row.leaf (row.end - row.start) }

-- the row that is out on processor p was put back unposted, for this fault
pub record Halts (old new : BookHeld) (p why : ℕ) : Type 0 where
  pub row : Row
  pub out : OutRow (plan_rows old.plan) old.state p row
  pub book : new ≡ record old { state = after old.state (Halt (processor p)); faults = slice_set old.faults p (Some why) }

-- the lowest processor with a fault, its number, and the row at which it came
pub record IsFirstFault (b : BookHeld) (f : Fault) : Type 0 where
  pub had : HadFault b.faults f.processor f.why
  pub first : (q : ℕ) → q < f.processor → slice_get b.faults q ≡ Some None
  pub at : RowAt (plan_rows b.plan) f.processor (posted_at b.state f.processor) f.row
